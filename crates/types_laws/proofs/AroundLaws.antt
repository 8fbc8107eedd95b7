-- What can be called in a source that stands is a function of its program.
use Rattle.std.proofs.Common.{◌≡◌, ◌+◌, ℕ, ℤ, List, [], ◌∷◌, Option, None, Some, refl, sym, ap, ◌∙◌}
use Rattle.std.proofs.Common.{subst}
use Rattle.std.specs.Prelude.{map, flat_map, replicate, slice_get}
use Rattle.std.specs.Option.{option_and_then}
use Rattle.pawn_tree.specs.Declarations.{Tree}
use Rattle.pawn_meaning.specs.Program.{Slot, ScalarSlot, Program}
use Rattle.pawn_meaning.specs.ValidExprs.{Takes}
use Rattle.pawn_tags.specs.declared.op.Op.{Op}
use Rattle.pawn_tags.specs.declared.op.Signature.{Signature}
use Rattle.names_rules.specs.Verdict.{Fault, Stands}
use Rattle.names_rules.specs.FileNames.{file_names, twice_faults}
use Rattle.names_rules.specs.Mark.{Mark}
use Rattle.names_rules.specs.TreeMarks.{tree_marks}
use Rattle.pawn_tags.specs.Overloads.{function_of}
use Rattle.types_rules.specs.Around.{Around, Head}
use Rattle.types_rules.specs.Keys.{Key, Operates}
use Rattle.types_rules.specs.Groups.{Group, written}
use Rattle.types_rules.specs.Headings.{headings, heading_key}
use Rattle.types_rules.specs.Paths.{heads}
use Rattle.types_rules.specs.Sources.{Source, Stated, source_of, stated, first_head, group_head}
use Rattle.types_rules.specs.Sources.{all_stated, around_of, without_heads, beginning}
use Rattle.types_rules.specs.Functions.{group_faults}
use Rattle.types_rules.specs.Declarations.{Done, declarations}
use Rattle.types_rules.specs.Programs.{program_of}
use Rattle.types_rules.specs.TypedTrees.{Checked, return_faults}
use Rattle.types_laws.specs.Known.{slot_of, operands, KnowsAround}
use Rattle.types_laws.specs.Objects.{Each}
use Rattle.types_laws.specs.Written.{IsAnyName}
use Rattle.types_laws.proofs.ArrayValues.{each_at}
use Rattle.types_laws.specs.ValidStatements.{IsCalled}
use Rattle.types_laws.proofs.SeenLaws.{plain_path}
use Rattle.types_laws.specs.WrittenDeclarations.{IsWrittenTree}
use Rattle.types_laws.specs.ValidBodies.{file_scope}
use Rattle.types_laws.specs.SameHeads.{AreThere, HeadsAreSame}
use Rattle.types_laws.specs.HeadedFunctions.{KeepTogether, FunctionsAreHeaded}
use Rattle.types_laws.proofs.GroupLaws.{key_itself}
use Rattle.types_laws.proofs.FirstHeads.{append_none, find_each}
use Rattle.types_laws.proofs.SiteLaws.{tags_are, beginning_seen}
use Rattle.types_laws.specs.WithinLimits.{ProgramsAreWithinLimits}
use Rattle.types_laws.proofs.LimitLaws.{typed_done}
use Rattle.types_laws.specs.KnownAround.{AroundsAreKnown, TypedProgramsAreWithinLimits}
use Rattle.types_laws.proofs.KnownHeads.{IsFine, IsThere, heads_fine, heads_there}
use Rattle.types_laws.proofs.KnownHeads.{natives_defaults, function_defaults}
use Rattle.types_laws.proofs.OperatorHeads.{IsOperatorHead, operator_head, same_operates}
use Rattle.types_laws.proofs.OperatorGroups.{IsFound, HasKey, of_key, operator_at, callable}
use Rattle.types_laws.proofs.OperatorGroups.{callable_at, all_keyed, key_headed, key_found}
use Rattle.types_laws.proofs.OperatorGroups.{operator_belongs}

-- ---- no function breaks what its bodies keep together

none_each : {A : Type 0} (f : A → List Fault) (xs : List A) → flat_map f xs ≡ []
    → Each (λ x. f x ≡ []) xs
none_each f [] e = tt
none_each f (x ∷ xs) e =
    let parts = append_none (f x) (flat_map f xs) e in (parts.0, none_each f xs parts.1)

-- ---- the first head of a user operator

-- a function's first head, of an operator
record FirstOperator (source : Source) (all : List Stated) (it : Signature) : Type 0 where
  pub stated_there : Stated
  pub found : first_head source all (Operates it) ≡ Some stated_there
  pub head : Head
  pub has : stated_there.head ≡ Some head
  pub shape : IsOperatorHead source.tags stated_there.heading.head it

module _ (source : Source) (all : List Stated)
    (there : Each (λ (st : Stated). IsThere st.head) all) where
  with_head : (it : Signature) (st : Stated) → first_head source all (Operates it) ≡ Some st
      → (o : Option Head) → st.head ≡ o → IsThere o → FirstOperator source all it
  with_head it st e None h t = absurd t
  with_head it st e (Some head) h t =
      let own = find_each (of_key source.tags source.fallback (Operates it))
      (λ (x : Stated). IsThere x.head) all st there e in
      record {
        stated_there = st;
        found = e;
        head = head;
        has = h;
        shape = operator_head source.tags source.fallback st.heading.head st.heading.states
            st.heading.head.name it
            (same_operates it (heading_key source.tags source.fallback st.heading)
            (operator_belongs source.tags source.fallback it st.heading own.1));
      }

  first_operator : (it : Signature) (o : Option Stated) → first_head source all (Operates it) ≡ o
      → IsFound source.tags source.fallback o → FirstOperator source all it
  first_operator it None e f = absurd f
  first_operator it (Some st) e f =
      let own = find_each (of_key source.tags source.fallback (Operates it))
      (λ (x : Stated). IsThere x.head) all st there e in
      with_head it st e st.head refl own.0

-- ---- all that is known

module _ (law : FunctionsAreHeaded) (tree : Tree) (it : Done) (marks : List Mark) (dynamic : ℤ)
    (written_is : IsWrittenTree IsAnyName tree) where
  abbrev of_tree : Source
  of_tree = source_of tree

  abbrev all_of : List Stated
  all_of = all_stated of_tree tree

  abbrev made : Program
  made = program_of of_tree all_of marks dynamic it

  module _ (stands : declarations of_tree (around_of of_tree tree) (beginning of_tree) tree
      ≡ Stands it) (together : KeepTogether of_tree all_of) (fine : Each IsFine all_of)
      (there : Each (λ (st : Stated). IsThere st.head) all_of) where
    first_of : (sign : Signature)
        → HasKey of_tree.tags of_tree.fallback (written tree) (Operates sign)
        → FirstOperator of_tree all_of sign
    first_of sign keyed =
        first_operator of_tree all_of there sign (first_head of_tree all_of (Operates sign)) refl
        (key_found of_tree.tags of_tree.fallback of_tree (Operates sign) (headings tree)
        (heads (without_heads of_tree) (beginning of_tree) tree) (key_itself (Operates sign) tt)
        (key_headed of_tree.tags of_tree.fallback tree (Operates sign) keyed))

    -- a function takes the slots of its first head
    takes_first : (place : ℕ) (group : Group) (sign : Signature) → group.key ≡ Operates sign
        → slice_get of_tree.groups place ≡ Some group → (first : FirstOperator of_tree all_of sign)
        → Takes made (0 + place) (map slot_of first.head.params)
    takes_first place group sign k e first =
        let head_is : group_head of_tree all_of group ≡ Some first.head =
        ap (λ (key : Key). option_and_then (λ (st : Stated). st.head)
        (first_head of_tree all_of key)) k
        ∙ ap (λ (o : Option Stated). option_and_then (λ (st : Stated). st.head) o) first.found
        ∙ first.has in
        let r = law tree it marks dynamic written_is stands together place
        (callable of_tree (0 + place) all_of group) first.head
        (callable_at of_tree 0 all_of of_tree.groups place group e) head_is in
        r.headed.takes

    -- they are as many as the sign has operands
    slots_first : (sign : Signature) (first : FirstOperator of_tree all_of sign)
        → map slot_of first.head.params ≡ replicate (operands sign.op) ScalarSlot
    slots_first sign first =
        let own = find_each
        (of_key of_tree.tags of_tree.fallback (Operates sign)) IsFine all_of
        first.stated_there fine first.found in
        own.0.plain first.head first.has of_tree.tags first.shape.plain first.shape.tags_are
        ∙ ap (λ (n : ℕ). replicate n ScalarSlot) first.shape.count

    operator_takes : (sign : Op) (left right f : ℕ)
        → function_of (around_of of_tree tree).operators sign left right ≡ Some f
        → Takes made f (replicate (operands sign) ScalarSlot)
    operator_takes sign left right f e =
        let at = operator_at of_tree 0 of_tree.groups sign left right f e in
        let keyed : HasKey of_tree.tags of_tree.fallback (written tree) at.group.key =
        each_at (λ (group : Group). HasKey of_tree.tags of_tree.fallback (written tree) group.key)
        of_tree.groups at.place at.group (all_keyed of_tree.tags of_tree.fallback (written tree))
        at.there in
        let first = first_of at.signature
        (subst (λ (key : Key). HasKey of_tree.tags of_tree.fallback (written tree) key) at.key_is
        keyed)
        in
        subst (λ (n : ℕ). Takes made n (replicate (operands sign) ScalarSlot)) (sym at.number_is)
        (subst (λ (slots : List Slot). Takes made (0 + at.place) slots)
        (slots_first at.signature first
        ∙ ap (λ (o : Op). replicate (operands o) ScalarSlot) at.op_is)
        (takes_first at.place at.group at.signature at.key_is at.there first))

    known : KnowsAround made (around_of of_tree tree)
    known = record {
      operators = operator_takes;
      functions = λ f c head e h. (
        function_defaults of_tree 0 all_of of_tree.groups fine f c head e h,
        (law tree it marks dynamic written_is stands together f c head e h).headed,
      );
      natives = λ k c head e h. natives_defaults of_tree all_of fine k c head e h;
    }

pub arounds_known : HeadsAreSame → FunctionsAreHeaded → AroundsAreKnown
arounds_known same_law law tree dynamic program warnings typed_is written_is few =
    let checked : Checked = record { program = program; warnings = warnings } in
    let d = (typed_done tree dynamic).of checked typed_is in
    let source : Source = source_of tree in
    let all : List Stated = all_stated source tree in
    let bare : Around = without_heads source in
    let heads_are = same_law source all (stated source source.headings []) (beginning source) tree
    d.it d.stands in
    let path = plain_path (around_of source tree) (IsCalled source.called)
    (file_scope (program_of source all (tree_marks tree) dynamic d.it)) (beginning source).scope
    (beginning_seen tree d.it (tree_marks tree) dynamic few) in
    let fine = heads_fine source bare (tags_are source few (stated source source.headings []))
    (beginning source) tree written_is path in
    let there = heads_there source bare (tags_are source few (stated source source.headings []))
    (beginning source) tree
    (subst (λ (hs : List (Option Head)). AreThere hs) (sym heads_are.same) heads_are.there) in
    let none = append_none (twice_faults (file_names tree)) _ d.together in
    let faults = append_none
    (flat_map (λ (group : Group). group_faults source all group) source.groups)
    (return_faults d.it.bodies) none.1 in
    subst (λ (p : Program). KnowsAround p (around_of source tree))
    (sym (ap (λ (x : Checked). x.program) d.is))
    (known law tree d.it (tree_marks tree) dynamic written_is d.stands
    (none_each (λ (group : Group). group_faults source all group) source.groups faults.0) fine
    there)

pub typed_within : AroundsAreKnown → ProgramsAreWithinLimits → TypedProgramsAreWithinLimits
typed_within known_law law tree dynamic program warnings typed_is written_is few =
    law tree dynamic program warnings typed_is written_is few
    (known_law tree dynamic program warnings typed_is written_is few)

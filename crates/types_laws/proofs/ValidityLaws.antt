-- A program that stands is valid.
use Rattle.std.proofs.Common.{◌≡◌, ◌<◌, ◌≤◌, ◌^◌, ℕ, ℤ, List, [], ◌∷◌, true, Option, Some, sym, ap}
use Rattle.std.proofs.Common.{◌∙◌, subst, arith}
use Rattle.std.specs.Prelude.{length, map, flat_map, slice_get, IfSome, nat_eq}
use Rattle.std.proofs.lemmas.List.{append-nil}
use Rattle.pawn_tree.specs.Declarations.{Tree}
use Rattle.pawn_meaning.specs.Program.{Slot, StaticObject, Function, Tag, Public, Program}
use Rattle.pawn_meaning.specs.Valid.{IsSlot, IsValidObject, IsValidBody, IsValidFunction}
use Rattle.pawn_meaning.specs.Valid.{IsValidAutomaton, IsValid}
use Rattle.names_rules.specs.Verdict.{Fault}
use Rattle.names_rules.specs.TreeMarks.{tree_marks}
use Rattle.names_rules.specs.FileNames.{file_names, twice_faults}
use Rattle.types_rules.specs.Around.{Around, Callable, Head}
use Rattle.types_rules.specs.Keys.{Named}
use Rattle.types_rules.specs.Groups.{Group, written}
use Rattle.types_rules.specs.Sources.{Source, Stated, source_of, stated, group_tag, all_stated}
use Rattle.types_rules.specs.Sources.{around_of, without_heads, beginning}
use Rattle.types_rules.specs.Functions.{group_faults, main_name}
use Rattle.types_rules.specs.Declarations.{Bodied, Done}
use Rattle.types_rules.specs.Programs.{bodies_of, params_of, function_of, program_of}
use Rattle.types_rules.specs.TypedTrees.{dynamic_faults, entry_faults, return_faults}
use Rattle.types_laws.specs.Known.{slot_of, KnowsAround}
use Rattle.types_laws.specs.Objects.{Each}
use Rattle.types_laws.proofs.Facts.{each_all}
use Rattle.types_laws.proofs.ArrayValues.{each_at}
use Rattle.types_laws.specs.Sits.{Sits}
use Rattle.types_laws.specs.ValidStatements.{IsGoodSlot}
use Rattle.types_laws.proofs.ListPartLaws.{sits_there}
use Rattle.types_laws.specs.ValidBodies.{IsSoundBody, BodiesAreValid}
use Rattle.types_laws.specs.SameHeads.{AreThere, HeadsAreSame}
use Rattle.types_laws.specs.HeadedFunctions.{KeepTogether, HaveParams, FunctionsAreHeaded}
use Rattle.types_laws.proofs.FirstHeads.{append_none}
use Rattle.types_laws.specs.FileSites.{FilesAreSites}
use Rattle.types_laws.proofs.SiteLaws.{tags_are}
use Rattle.types_laws.specs.WithinLimits.{IsWithin}
use Rattle.types_laws.proofs.LimitLaws.{program_done}
use Rattle.types_laws.specs.KnownAround.{AroundsAreKnown, TypedProgramsAreWithinLimits}
use Rattle.types_laws.proofs.KnownHeads.{IsThere, heads_there}
use Rattle.types_laws.specs.ValidRoutes.{IsRouted, RoutesAreValid}
use Rattle.types_laws.proofs.RouteLaws.{IsReady, ready_of, each_from, nothing_plus, function_at}
use Rattle.types_laws.specs.ValidPrograms.{ProgramsAreValid}
use Rattle.types_laws.proofs.FunctionHeads.{has_head, callable_at, bodies_have}
use Rattle.types_laws.proofs.Numbers.{tags_small, publics_within, functions_count, entry_within}
use Rattle.types_laws.proofs.Numbers.{room_cell}

-- ---- one function

slots_are : (slots : List Slot) → Each IsGoodSlot slots → Each IsSlot slots
slots_are [] h = tt
slots_are (x ∷ more) h = (h.0.valid, slots_are more h.1)

module _ (it : Program) where
  -- a body that is valid for these parameters
  record IsBodyFor (params : List Slot) (b : Bodied) : Type 0 where
    pub same : b.params ≡ params
    pub sound : IsSoundBody it b

  params_good : (params : List Slot) (bodies : List Bodied) → Each (IsBodyFor params) bodies
      → Each IsSlot (params_of bodies)
  params_good params [] h = tt
  params_good params (b ∷ more) h = slots_are b.params h.0.sound.params

  bodies_good : (params : List Slot) (bodies : List Bodied) → Each (IsBodyFor params) bodies
      → Each (IsValidBody it params) (map (λ (b : Bodied). b.body) bodies)
  bodies_good params [] h = tt
  bodies_good params (b ∷ more) h = (
    subst (λ (slots : List Slot). IsValidBody it slots b.body) h.0.same h.0.sound.valid,
    bodies_good params more h.1,
  )

  first_good : (params : List Slot) (bodies : List Bodied) → Each (IsBodyFor params) bodies
      → Each (IsValidBody it (params_of bodies)) (map (λ (b : Bodied). b.body) bodies)
  first_good params [] h = tt
  first_good params (b ∷ more) h =
      subst (λ (slots : List Slot).
      Each (IsValidBody it slots) (map (λ (x : Bodied). x.body) (b ∷ more))) (sym h.0.same)
      (bodies_good params (b ∷ more) h)

  bodies_for : (params : List Slot) (f : ℕ) (bodies : List Bodied) → Each (IsSoundBody it) bodies
      → Each (λ (b : Bodied). nat_eq b.number f ≡ true → b.params ≡ params) bodies
      → Each (λ (b : Bodied). nat_eq b.number f ≡ true → IsBodyFor params b) bodies
  bodies_for params f [] h k = tt
  bodies_for params f (b ∷ more) h k =
      (λ e. record { same = k.0 e; sound = h.0 }, bodies_for params f more h.1 k.1)

-- ---- all parts

sits_whole : (xs : List StaticObject) → Sits xs 0 xs
sits_whole xs =
    subst (λ (l : List StaticObject). Sits l 0 xs) (append-nil xs) (sits_there [] xs [])

none_each : {A : Type 0} (f : A → List Fault) (xs : List A) → flat_map f xs ≡ []
    → Each (λ x. f x ≡ []) xs
none_each f [] e = tt
none_each f (x ∷ xs) e =
    let parts = append_none (f x) (flat_map f xs) e in (parts.0, none_each f xs parts.1)

module _ (tree : Tree) (dynamic : ℤ) (done : Done) where
  abbrev of_tree : Source
  of_tree = source_of tree

  abbrev all_of : List Stated
  all_of = all_stated of_tree tree

  abbrev made : Program
  made = program_of of_tree all_of (tree_marks tree) dynamic done

  functions_valid : FunctionsAreHeaded → length of_tree.tags ≤ 2 ^ 32
      → IsReady of_tree (written tree) done.bodies
      → Each (λ (st : Stated). IsThere st.head) all_of
      → ((f : ℕ) (c : Callable) (head : Head)
      → slice_get (around_of of_tree tree).functions f ≡ Some c
      → c.head ≡ Some head → HaveParams done.bodies f head)
      → Each (IsSoundBody made) done.bodies → Each (IsRouted made) made.functions
      → Each (IsValidFunction made) made.functions
  functions_valid law few ready there params sound routed =
      each_from (IsValidFunction made) made.functions (λ f x e.
      let r = function_at of_tree (written tree) done.bodies ready all_of 0 of_tree.groups f x e in
      let head = has_head of_tree (without_heads of_tree) (beginning of_tree) tree done.bodies ready
      there f r.group r.there in
      let call = callable_at of_tree all_of 0 of_tree.groups f r.group r.there in
      let have = params f _ head.head call head.is in
      let own = bodies_have f (IsBodyFor made (map slot_of head.head.params)) done.bodies
      (bodies_for made (map slot_of head.head.params) f done.bodies sound have) in
      let tag = (tags_are of_tree few all_of).functions f _ call in
      let route = each_at (IsRouted made) made.functions f x routed e in
      let is =
      ap (λ (m : ℕ). function_of of_tree.automata (group_tag of_tree all_of r.group) r.group
      (bodies_of done.bodies m)) (sym (nothing_plus of_tree (written tree) done.bodies ready f))
      ∙ r.is in
      let base = subst (λ (y : Function).
      Each IsSlot y.params × (y.tag < 2 ^ 32) × Each (IsValidBody made y.params) y.bodies) is (
        params_good made (map slot_of head.head.params) (bodies_of done.bodies f) own,
        tag,
        first_good made (map slot_of head.head.params) (bodies_of done.bodies f) own,
      ) in
      record {
        params = each_all IsSlot x.params base.0;
        tag = base.1;
        bodies = each_all (IsValidBody made x.params) x.bodies base.2;
        routed = route.routed;
        one_body = route.one_body;
      })

pub programs_valid : AroundsAreKnown → TypedProgramsAreWithinLimits → BodiesAreValid → FilesAreSites
    → FunctionsAreHeaded → HeadsAreSame → RoutesAreValid → ProgramsAreValid
programs_valid known_law within_law bodies_law files_law headed_law same_law routes_law tree dynamic
    program warnings typed_is written_is few =
    let d = program_done tree dynamic program warnings typed_is in
    let source : Source = source_of tree in
    let all : List Stated = all_stated source tree in
    let it : Program = program_of source all (tree_marks tree) dynamic d.it in
    let same : program ≡ it = d.is in
    let known = subst (λ (p : Program). KnowsAround p (around_of source tree)) same
    (known_law tree dynamic program warnings typed_is written_is few) in
    let within =
    subst IsWithin same (within_law tree dynamic program warnings typed_is written_is few)
    in
    let file = files_law tree d.it (tree_marks tree) dynamic few known written_is in
    let sound =
    bodies_law it (around_of source tree) source.called source (beginning source) tree d.it
    file.site file.written d.stands (sits_whole d.it.objects) in
    let none = append_none (twice_faults (file_names tree)) _ d.together in
    let faults = append_none
    (flat_map (λ (group : Group). group_faults source all group) source.groups)
    (return_faults d.it.bodies) none.1 in
    let together : KeepTogether source all =
    none_each (λ (group : Group). group_faults source all group) source.groups faults.0 in
    let routed = routes_law tree d.it (tree_marks tree) dynamic d.stands together in
    let bare : Around = without_heads source in
    let heads_are = same_law source all (stated source source.headings []) (beginning source) tree
    d.it d.stands in
    let there = heads_there source bare (tags_are source few (stated source source.headings []))
    (beginning source) tree
    (subst (λ (hs : List (Option Head)). AreThere hs) (sym heads_are.same) heads_are.there) in
    let ready = ready_of tree d.it d.stands in
    let functions = functions_valid tree dynamic d.it headed_law few ready there
    (λ f c head e h. (headed_law tree d.it
    (tree_marks tree) dynamic written_is d.stands together f c
    head e h).params) sound.bodies routed.functions in
    let whole = append_none (dynamic_faults dynamic) (entry_faults source) d.none in
    let count = functions_count source all 0 source.groups d.it.bodies in
    subst IsValid (sym same) (record {
      objects = each_all IsValidObject it.objects within.objects;
      functions = each_all (IsValidFunction it) it.functions functions;
      automata = each_all (IsValidAutomaton it) it.automata routed.automata;
      tags = each_all (λ (tag : Tag). tag.number < 2 ^ 32) it.tags
          (tags_small (tree_marks tree) 0 (2 ^ 32) source.tags (omega (arith, few)));
      publics = each_all (λ (x : Public). x.function < length it.functions) it.publics
          (subst (λ (n : ℕ). Each (λ (x : Public). x.function < n) it.publics) (sym count)
          (publics_within source));
      entry = subst (λ (n : ℕ). IfSome it.entry (λ f. f < n)) (sym count)
          (entry_within source.groups (Named main_name));
      dynamic = room_cell dynamic whole.0;
    })

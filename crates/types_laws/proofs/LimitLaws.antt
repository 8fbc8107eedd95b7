-- A program that stands is within the limits.
use Rattle.std.proofs.Common.{◌≡◌, ◌+◌, ◌≤ℤ◌, ℕ, ℤ, pos, List, [], ◌∷◌, ◌++◌, Bool, true, false}
use Rattle.std.proofs.Common.{refl, sym, ap, subst, cond}
use Rattle.std.specs.Prelude.{map, filter, nat_eq, not, ◌&&◌, int_le}
use Rattle.std.proofs.lemmas.Bool.{and_parts}
use Rattle.std.proofs.lemmas.Float.{T_from_true}
use Rattle.std.proofs.lemmas.List.{append-nil}
use Rattle.pawn_cells.specs.declared.place.Place.{Place}
use Rattle.pawn_tree.specs.Declarations.{Tree}
use Rattle.pawn_meaning.specs.Program.{Slot, StaticObject, Program}
use Rattle.pawn_meaning.specs.Valid.{IsValidObject}
use Rattle.pawn_meaning.specs.declared.program_limits.TheConstants.{DYNAMIC_LIMIT}
use Rattle.pawn_meaning.specs.Limits.{IsWithinArray, IsWithinSlot, IsWithinBody, IsWithinFunction}
use Rattle.names_rules.specs.Verdict.{Fault, Stands}
use Rattle.names_rules.specs.TreeMarks.{tree_marks}
use Rattle.types_rules.proofs.VerdictLaws.{Holds, stands_itself, breaks_holds, holds_after}
use Rattle.types_rules.proofs.VerdictLaws.{holds_both, holds_all}
use Rattle.types_rules.specs.Groups.{Group}
use Rattle.types_rules.specs.Sources.{Source, Stated, source_of, all_stated, around_of, beginning}
use Rattle.types_rules.specs.Declarations.{Bodied, Done}
use Rattle.types_rules.specs.Programs.{bodies_of, params_of, program_functions, program_of}
use Rattle.types_rules.specs.TypedTrees.{Checked, passed, whole_fault, dynamic_faults, entry_faults}
use Rattle.types_rules.specs.TypedTrees.{unless, sum_faults, whole_faults, source_faults, done}
use Rattle.types_rules.specs.TypedTrees.{checked_of, typed}
use Rattle.types_rules.specs.IsTyped.{IsTyped}
use Rattle.types_rules.specs.Sums.{IsWithinSums, StandsWithinSums}
use Rattle.types_laws.specs.Known.{KnowsAround}
use Rattle.types_laws.specs.Objects.{Each, IsGoodObject}
use Rattle.types_laws.proofs.Facts.{each_all}
use Rattle.types_laws.specs.Sits.{Sits}
use Rattle.types_laws.specs.ValidStatements.{IsGoodSlot}
use Rattle.types_laws.proofs.ListPartLaws.{sits_there}
use Rattle.types_laws.specs.ValidBodies.{IsSoundBody, BodiesAreValid}
use Rattle.types_laws.specs.FileSites.{FilesAreSites}
use Rattle.types_laws.specs.WithinLimits.{IsWithin, ProgramsAreWithinLimits}

-- ---- no fault

none_of : (faults : List Fault) → Holds (λ ok. faults ≡ []) (unless faults)
none_of [] = stands_itself _ passed refl
none_of (it ∷ more) = breaks_holds _ _

append_none : {A : Type 0} (xs ys : List A) → xs ++ ys ≡ [] → xs ≡ []
append_none [] ys e = refl
append_none (x ∷ xs) ys e = absurd (let no : ⊥ = cc in no)

no_fault : (b : Bool) (kind : ℕ) → whole_fault (not b) kind ≡ [] → b ≡ true
no_fault true kind e = refl
no_fault false kind e = absurd (let no : ⊥ = cc in no)

-- ---- functions

within_slots : (slots : List Slot) → Each IsGoodSlot slots → Each IsWithinSlot slots
within_slots [] h = tt
within_slots (x ∷ more) h = (h.0.within, within_slots more h.1)

kept : {A : Type 0} (P : A → Type 0) (b : Bool) (x : A) (rest : List A) → P x → Each P rest
    → Each P (cond b (x ∷ rest) rest)
kept P true x rest h k = (h, k)
kept P false x rest h k = k

filtered : {A : Type 0} (P : A → Type 0) (p : A → Bool) (xs : List A) → Each P xs
    → Each P (filter p xs)
filtered P p [] h = tt
filtered P p (x ∷ xs) h = kept P (p x) x (filter p xs) h.0 (filtered P p xs h.1)

sits_whole : (xs : List StaticObject) → Sits xs 0 xs
sits_whole xs =
    subst (λ (l : List StaticObject). Sits l 0 xs) (append-nil xs) (sits_there [] xs [])

module _ (it : Program) where
  params_within : (bodies : List Bodied) → Each (IsSoundBody it) bodies
      → Each IsWithinSlot (params_of bodies)
  params_within [] h = tt
  params_within (b ∷ more) h = within_slots b.params h.0.params

  bodies_within : (bodies : List Bodied) → Each (IsSoundBody it) bodies
      → Each IsWithinBody (map (λ (b : Bodied). b.body) bodies)
  bodies_within [] h = tt
  bodies_within (b ∷ more) h = (h.0.within, bodies_within more h.1)

  functions_within : (source : Source) (all : List Stated) (number : ℕ) (groups : List Group)
      (bodies : List Bodied) → Each (IsSoundBody it) bodies
      → Each IsWithinFunction (program_functions source all number groups bodies)
  unfolding program_functions
  functions_within source all number [] bodies h = tt
  functions_within source all number (group ∷ more) bodies h =
      let own = filtered (IsSoundBody it) (λ (b : Bodied). nat_eq b.number number) bodies h in (
        record {
          params = each_all IsWithinSlot (params_of (bodies_of bodies number))
              (params_within (bodies_of bodies number) own);
          bodies = each_all IsWithinBody (map (λ (b : Bodied). b.body) (bodies_of bodies number))
              (bodies_within (bodies_of bodies number) own);
        },
        functions_within source all (number + 1) more bodies h,
      )

objects_within : (objects : List StaticObject) → Each IsGoodObject objects
    → Each (λ (x : StaticObject). IsWithinArray x.sizes) objects
objects_within [] h = tt
objects_within (x ∷ more) h = (h.0.within, objects_within more h.1)

objects_valid : (objects : List StaticObject) → Each IsGoodObject objects
    → Each IsValidObject objects
objects_valid [] h = tt
objects_valid (x ∷ more) h = (h.0.valid, objects_valid more h.1)

-- ---- the program

at_most : (a b : ℤ) → int_le a b ≡ true → a ≤ℤ b
at_most a b e = record { le = T_from_true (int_le a b) e }

-- what declarations make of a tree that stands, which has no fault
pub record HasDone (tree : Tree) (dynamic : ℤ) (checked : Checked) : Type 0 where
  pub it : Done
  pub stands : done tree dynamic ≡ Stands it
  pub is : checked ≡ checked_of tree dynamic it
  pub none : whole_faults tree dynamic ≡ []
  pub together : source_faults tree dynamic it.bodies ≡ []

pub typed_done : (tree : Tree) (dynamic : ℤ) → Holds (HasDone tree dynamic) (typed tree dynamic)
typed_done tree dynamic =
    holds_both {Q = λ it. done tree dynamic ≡ Stands it} (none_of (whole_faults tree dynamic))
    (record { of = λ it e. e }) (λ ok it none e.
    holds_after (none_of (source_faults tree dynamic it.bodies)) (λ ok2 t.
    holds_after (holds_all (unless (sum_faults (checked_of tree dynamic it).program))) (λ ok3 u.
    stands_itself (HasDone tree dynamic) (checked_of tree dynamic it)
    (record { it = it; stands = e; is = refl; none = none; together = t }))))

-- and the program itself
pub record ProgramDone (tree : Tree) (dynamic : ℤ) (program : Program) : Type 0 where
  pub it : Done
  pub stands : done tree dynamic ≡ Stands it
  pub is : program
      ≡ program_of (source_of tree) (all_stated (source_of tree) tree) (tree_marks tree) dynamic it
  pub none : whole_faults tree dynamic ≡ []
  pub together : source_faults tree dynamic it.bodies ≡ []

pub program_done : (tree : Tree) (dynamic : ℤ) (program : Program) (warnings : List Place)
    → IsTyped tree dynamic program warnings
    → ProgramDone tree dynamic program
program_done tree dynamic program warnings e =
    let d = (typed_done tree dynamic).of (record { program = program; warnings = warnings }) e in
    record {
      it = d.it;
      stands = d.stands;
      is = ap (λ (x : Checked). x.program) d.is;
      none = d.none;
      together = d.together;
    }

pub programs_within : BodiesAreValid → FilesAreSites → StandsWithinSums → ProgramsAreWithinLimits
programs_within bodies_law files_law sums_law tree dynamic program warnings typed_is written
    few known =
    let checked : Checked = record { program = program; warnings = warnings } in
    let d = (typed_done tree dynamic).of checked typed_is in
    let sums = sums_law tree dynamic program warnings typed_is in
    let source : Source = source_of tree in
    let made : Program =
    program_of source (all_stated source tree) (tree_marks tree) dynamic d.it in
    let same : program ≡ made = ap (λ (x : Checked). x.program) d.is in
    let file = files_law tree d.it (tree_marks tree) dynamic few
    (subst (λ (p : Program). KnowsAround p (around_of source tree)) same known) written in
    let sound =
    bodies_law made (around_of source tree) source.called source
    (beginning source) tree d.it
    file.site file.written d.stands (sits_whole d.it.objects) in
    let range = and_parts (int_le (pos 0) dynamic) (int_le dynamic DYNAMIC_LIMIT)
    (no_fault (int_le (pos 0) dynamic && int_le dynamic DYNAMIC_LIMIT) _
    (append_none (dynamic_faults dynamic) (entry_faults source) d.none)) in
    subst IsWithin (sym same) (record {
      limits = record {
        objects = each_all (λ (x : StaticObject). IsWithinArray x.sizes) d.it.objects
            (objects_within d.it.objects sound.objects);
        functions = each_all IsWithinFunction _
            (functions_within made source (all_stated source tree) 0 source.groups d.it.bodies
            sound.bodies);
        cells = (subst (λ (p : Program). IsWithinSums p) same sums).cells;
        weight = (subst (λ (p : Program). IsWithinSums p) same sums).code;
        dynamic = (at_most (pos 0) dynamic range.0, at_most dynamic DYNAMIC_LIMIT range.1);
      };
      objects = objects_valid d.it.objects sound.objects;
    })

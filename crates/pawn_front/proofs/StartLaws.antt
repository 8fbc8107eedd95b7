-- The program of a tree has a main or a public function.
use Rattle.std.proofs.Common.{◌≡◌, ◌++◌, ◌||◌, ℕ, ℤ, List, [], ◌∷◌, Bool, true, false, not}
use Rattle.std.proofs.Common.{refl, subst}
use Rattle.pawn_cells.specs.declared.place.Place.{Place}
use Rattle.pawn_tree.specs.Declarations.{Tree}
use Rattle.pawn_meaning.specs.Program.{Program}
use Rattle.names_rules.specs.Verdict.{Fault, Verdict, Stands, Breaks, after, both}
use Rattle.types_rules.specs.Declarations.{Done}
use Rattle.types_rules.specs.IsTyped.{IsTyped}
use Rattle.types_rules.specs.Sources.{source_of}
use Rattle.types_rules.specs.TypedTrees.{Checked, Passed, checked_of, done, dynamic_faults}
use Rattle.types_rules.specs.TypedTrees.{entry_faults, source_faults, sum_faults, typed, unless}
use Rattle.types_rules.specs.TypedTrees.{has_main, has_some, whole_fault, whole_faults}
use Rattle.types_rules.specs.TypedTrees.{within_sums}
use Rattle.types_rules.specs.Publics.{publics}
use Rattle.types_rules.specs.declared.fault.TheConstants.{NO_FUNCTIONS}
use Rattle.pawn_front.specs.Sourced.{can_begin}

-- ---- what stands behind a test

-- a property of what a verdict stands for, if it stands
record Holds (P : Checked → Type 0) (it : Verdict Checked) : Type 0 where
  of : (x : Checked) → it ≡ Stands x → P x

holds_after : {A : Type 0} (P : Checked → Type 0) (v : Verdict A) (rule : A → Verdict Checked)
    → ((x : A) → v ≡ Stands x → Holds P (rule x)) → Holds P (after v rule)
holds_after P (Stands x) rule k = k x refl
holds_after P (Breaks faults) rule k = record { of = λ x e. absurd (let no : ⊥ = cc in no) }

holds_both : {A B : Type 0} (P : Checked → Type 0) (v : Verdict A) (w : Verdict B)
    (rule : A → B → Verdict Checked)
    → ((x : A) (y : B) → v ≡ Stands x → Holds P (rule x y)) → Holds P (both v w rule)
holds_both P (Stands x) w rule k = holds_after P w (rule x) (λ y e. k x y refl)
holds_both P (Breaks faults) w rule k = record { of = λ x e. absurd (let no : ⊥ = cc in no) }

holds_itself : (P : Checked → Type 0) (it : Checked) → P it → Holds P (Stands it)
holds_itself P it h = record { of = λ x e. let same : it ≡ x = cc in subst P same h }

-- ---- no fault, so the function is there

none_in : (faults : List Fault) (x : Passed) → unless faults ≡ Stands x → faults ≡ []
none_in [] x e = refl
none_in (it ∷ more) x e = absurd (cc e)

behind_none : (a b : List Fault) → a ++ b ≡ [] → b ≡ []
behind_none [] b e = e
behind_none (x ∷ a) b e = absurd (cc e)

no_fault : (b : Bool) (kind : ℕ) → whole_fault (not b) kind ≡ [] → b ≡ true
no_fault true kind e = refl
no_fault false kind e = absurd (cc e)

module _ (tree : Tree) (dynamic : ℤ) where
  abbrev Begins : Checked → Type 0
  Begins it = can_begin it.program ≡ true

  begins : (x : Passed) → unless (whole_faults tree dynamic) ≡ Stands x → (it : Done)
      → Begins (checked_of tree dynamic it)
  begins x e it =
      no_fault (has_main (source_of tree) || has_some (publics (source_of tree))) NO_FUNCTIONS
      (behind_none (dynamic_faults dynamic) (entry_faults (source_of tree))
      (none_in (whole_faults tree dynamic) x e))

  sums : (it : Done) → Begins (checked_of tree dynamic it)
      → Holds Begins (within_sums (checked_of tree dynamic it))
  sums it h =
      holds_after Begins (unless (sum_faults (checked_of tree dynamic it).program))
      (λ ok. Stands (checked_of tree dynamic it))
      (λ ok e. holds_itself Begins (checked_of tree dynamic it) h)

  typed_begins : Holds Begins (typed tree dynamic)
  typed_begins =
      holds_both Begins (unless (whole_faults tree dynamic)) (done tree dynamic)
      (λ ok it. after (unless (source_faults tree dynamic it.bodies))
      (λ ok2. within_sums (checked_of tree dynamic it)))
      (λ x it e. holds_after Begins (unless (source_faults tree dynamic it.bodies))
      (λ ok2. within_sums (checked_of tree dynamic it))
      (λ y f. sums it (begins x e it)))

pub typed_can_begin : (tree : Tree) (dynamic : ℤ) (program : Program) (warnings : List Place)
    → IsTyped tree dynamic program warnings → can_begin program ≡ true
typed_can_begin tree dynamic program warnings e =
    (typed_begins tree dynamic).of (record { program = program; warnings = warnings }) e

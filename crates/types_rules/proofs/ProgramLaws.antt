-- At most one program stands, none where there is a fault, and what stands is within the sums.
use Rattle.std.proofs.Common.{◌≡◌, ◌<◌, ℕ, ℤ, List, [], ◌++◌, Bool, true, false, refl, sym, ◌∙◌}
use Rattle.std.proofs.Common.{subst, arith, ap}
use Rattle.std.specs.Prelude.{not, nat_le}
use Rattle.std.specs.List.{Contains}
use Rattle.std.proofs.lemmas.Bool.{leb-true}
use Rattle.pawn_cells.specs.declared.place.Place.{Place}
use Rattle.pawn_tree.specs.Declarations.{Tree}
use Rattle.pawn_meaning.specs.Program.{Program}
use Rattle.pawn_meaning.specs.declared.program_limits.TheConstants.{DATA_LIMIT, WEIGHT_LIMIT}
use Rattle.pawn_meaning.specs.Limits.{data_cells}
use Rattle.pawn_meaning.specs.Weight.{weight}
use Rattle.names_rules.specs.Verdict.{Fault, Verdict, Stands, faults_of}
use Rattle.types_rules.specs.declared.fault.TheConstants.{LIMIT_ARRAY, LIMIT_CODE}
use Rattle.types_rules.proofs.VerdictLaws.{Holds, stands_itself, breaks_holds, holds_after}
use Rattle.types_rules.proofs.VerdictLaws.{holds_both, holds_all}
use Rattle.types_rules.specs.TypedTrees.{Checked, passed, typed, unless, whole_fault, within_sums}
use Rattle.types_rules.specs.TypedTrees.{whole_faults, source_faults, done, checked_of}
use Rattle.types_rules.specs.IsTyped.{IsTyped, IsFault}
use Rattle.types_rules.specs.Sums.{IsWithinSums}

same_checked : (a b : Checked) → Stands a ≡ Stands b → a ≡ b
same_checked a b e = cc

same_parts : (a b : Checked) → a ≡ b → (a.program ≡ b.program) × (a.warnings ≡ b.warnings)
same_parts a b e = (ap (λ (it : Checked). it.program) e, ap (λ (it : Checked). it.warnings) e)

pub one_program : (tree : Tree) (dynamic : ℤ) (program other : Program)
    (warnings others : List Place)
    → IsTyped tree dynamic program warnings → IsTyped tree dynamic other others
    → (program ≡ other) × (warnings ≡ others)
one_program tree dynamic program other warnings others a b =
    let x : Checked = record { program = program; warnings = warnings } in
    let y : Checked = record { program = other; warnings = others } in
    same_parts x y (same_checked x y (sym a ∙ b))

none_in : (fault : Fault) → Contains [] fault → ⊥
none_in fault x = let lt : x.0 < 0 = x.1 in omega arith

pub no_fault : (tree : Tree) (dynamic : ℤ) (program : Program) (warnings : List Place)
    (fault : Fault)
    → IsTyped tree dynamic program warnings → IsFault tree dynamic fault → ⊥
no_fault tree dynamic program warnings fault a b =
    none_in fault (subst (λ (w : Verdict Checked). Contains (faults_of w) fault) a b)

-- ---- sums

abbrev BothTrue : Bool → Bool → Type 0
BothTrue p q = (p ≡ true) × (q ≡ true)

both_pass : (p q : Bool) (k l : ℕ)
    → Holds (λ ok. BothTrue p q) (unless (whole_fault (not p) k ++ whole_fault (not q) l))
both_pass true true k l = stands_itself _ passed (refl, refl)
both_pass true false k l = breaks_holds _ _
both_pass false q k l = breaks_holds _ _

within : (it : Checked) → Holds (λ checked. IsWithinSums checked.program) (within_sums it)
within it =
    holds_after (both_pass (nat_le (data_cells it.program) DATA_LIMIT)
    (nat_le (weight it.program) WEIGHT_LIMIT) LIMIT_ARRAY LIMIT_CODE)
    (λ ok p. stands_itself (λ (checked : Checked). IsWithinSums checked.program) it
    (record { cells = leb-true _ _ p.0; code = leb-true _ _ p.1 }))

typed_within : (tree : Tree) (dynamic : ℤ)
    → Holds (λ checked. IsWithinSums checked.program) (typed tree dynamic)
typed_within tree dynamic =
    holds_both (holds_all (unless (whole_faults tree dynamic))) (holds_all (done tree dynamic))
    (λ ok it t u.
    holds_after (holds_all (unless (source_faults tree dynamic it.bodies)))
    (λ ok2 v. within (checked_of tree dynamic it)))

pub within_sums_law : (tree : Tree) (dynamic : ℤ) (program : Program) (warnings : List Place)
    → IsTyped tree dynamic program warnings → IsWithinSums program
within_sums_law tree dynamic program warnings a =
    (typed_within tree dynamic).of (record { program = program; warnings = warnings }) a

-- What a rule gives: a value, or the faults for which there is none.
use Rattle.std.specs.Prelude.{ℕ, ◌++◌, List, [], ◌∷◌}
use Rattle.pawn_cells.specs.declared.place.Place.{Place}

-- a rule that is broken, by its number, and where the node stands that breaks it
pub record Fault : Type 0 where
  pub kind : ℕ
  pub place : Place

-- either it stands or rules are broken
pub data Verdict (A : Type 0) : Type 0 where
  Stands : A → Verdict A
  Breaks : List Fault → Verdict A

-- the faults of a verdict
abbrev pub faults_of : {A : Type 0} → Verdict A → List Fault
faults_of (Stands x) = []
faults_of (Breaks faults) = faults

-- one rule is broken
abbrev pub broken : {A : Type 0} → ℕ → Place → Verdict A
broken kind place = Breaks (record { kind = kind; place = place } ∷ [])

-- what a rule makes of a part
abbrev pub after : {A B : Type 0} → Verdict A → (A → Verdict B) → Verdict B
after (Stands x) rule = rule x
after (Breaks faults) rule = Breaks faults

-- what a rule makes of two parts, each of which may be broken
abbrev pub both : {A B C : Type 0} → Verdict A → Verdict B → (A → B → Verdict C) → Verdict C
both (Stands x) other rule = after other (rule x)
both (Breaks faults) other rule = Breaks (faults ++ faults_of other)

-- Which two forwards of `entry` tell of all of them.
use Rattle.std.specs.Prelude.{◌≡◌, ◌≢◌, ◌<◌, ℕ, Bool, true, false, ◌&&◌, is_some, List, Option}
use Rattle.std.specs.Prelude.{None, Some, Result, Ok, Err}
use Rattle.types_rules.specs.Sources.{Source, Stated}
use Rattle.types_rules.specs.Functions.{differs}
use Rattle.types_rules.specs.Around.{Head}
use Rattle.names_rules.specs.Verdict.{Fault}
use Rattle.pawn_verdict.specs.declared.fault.CheckFault.{CheckFault}
use Rattle.check_functions.specs.Own.{enters_all}
use Rattle.check_functions.specs.Differ.{EachOf, stated_at}

-- a forward of `entry` whose head stands
abbrev pub is_forward : Option Stated → Bool
is_forward None = false
is_forward (Some it) = is_some it.head && enters_all it.heading

-- whether heads that stand differ
abbrev pub are_unlike : Source → Option Stated → Option Stated → Bool
are_unlike source None it = false
are_unlike source (Some first) None = false
are_unlike source (Some first) (Some it) = differs source first first.head it it.head

-- of those below a number that pass, the first one, and the first one that differs from it
pub record AreTold (passes : ℕ → Bool) (differ : ℕ → ℕ → Bool) (count : ℕ)
    (first other : Option ℕ) : Type 0 where
  pub first_is : (w : ℕ) → first ≡ Some w → passes w ≡ true
  pub other_is : (v : ℕ) → other ≡ Some v
      → (passes v ≡ true) × (w : ℕ) × (first ≡ Some w) × (differ w v ≡ true)
  pub none : first ≡ None → (j : ℕ) → j < count → passes j ≡ false
  pub same : other ≡ None → (w : ℕ) → first ≡ Some w → (j : ℕ) → j < count → passes j ≡ true → w ≢ j
      → differ w j ≡ false

-- of the headings below a number, by their places
abbrev pub TellOf : Source → List (Option Head) → ℕ → Option ℕ → Option ℕ → Type 0
TellOf source heads count first other =
    AreTold (λ i. is_forward (stated_at source.headings heads i))
    (λ i j. are_unlike source (stated_at source.headings heads i)
    (stated_at source.headings heads j))
    count first other

-- the answer is told of each at a place, where there is one
abbrev pub AtPlace : (ℕ → ℕ → List Fault) → ℕ → Option ℕ → Result (Unit {0}) CheckFault → Type 0
AtPlace faults count None (Ok done) = Unit {0}
AtPlace faults count None (Err fault) = ⊥
AtPlace faults count (Some i) result = EachOf (faults i) count result

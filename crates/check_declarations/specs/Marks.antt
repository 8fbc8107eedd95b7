-- What code marks of the returns of each function, and how it answers those behind them.
use Rattle.std.specs.Prelude.{◌≡◌, ℕ, List, map, Bool, true, false, not, ◌||◌, Option, None, Some}
use Rattle.std.specs.Prelude.{Result, Ok, Err, slice_index_or}
use Rattle.std.specs.List.{list_any}
use Rattle.names_rules.specs.Verdict.{Fault}
use Rattle.types_rules.specs.declared.fault.TheConstants.{RETURN_MIXED}
use Rattle.pawn_verdict.specs.Answers.{Fails}
use Rattle.pawn_verdict.specs.declared.fault.CheckFault.{CheckFault}
use Rattle.types_rules.specs.Stood.{Returned}
use Rattle.types_rules.specs.Declarations.{Bodied}
use Rattle.types_rules.specs.Functions.{fault}
use Rattle.types_rules.specs.TypedTrees.{gives, gives_none, returns_of}

-- whether some return gives a value, and whether some gives none
pub record Seen : Type 0 where
  pub with_value : Bool
  pub without : Bool

-- of some returns
abbrev pub seen_in : List Returned → Seen
seen_in returns =
    record { with_value = list_any gives returns; without = list_any gives_none returns }

-- and of those before them
abbrev pub seen_behind : Seen → List Returned → Seen
seen_behind x returns = record {
  with_value = x.with_value || list_any gives returns;
  without = x.without || list_any gives_none returns;
}

-- by a mark: all give a value, or none does, or there is none
abbrev pub seen_by : Option Bool → Seen
seen_by None = record { with_value = false; without = false }
seen_by (Some value) = record { with_value = value; without = not value }

-- what no function may have
abbrev pub both_seen : Seen
both_seen = record { with_value = true; without = true }

-- the mark of the function with a number
abbrev pub mark_of : List (Option Bool) → ℕ → Option Bool
mark_of marks number = slice_index_or marks number None

-- a fault at each return
abbrev pub mixed_at : List Returned → List Fault
mixed_at returns = map (λ (it : Returned). fault RETURN_MIXED it.at) returns

-- returns behind a mark: the mark behind them, or a fault where both kinds are
abbrev pub Told : Option Bool → List Returned → Result (Option Bool) CheckFault → Type 0
Told mark returns (Ok next) = seen_by next ≡ seen_behind (seen_by mark) returns
Told mark returns (Err it) =
    (seen_behind (seen_by mark) returns ≡ both_seen) × Fails (mixed_at returns) it

-- the answer is told of these returns
pub record Agrees (mark : Option Bool) (returns : List Returned)
    (result : Result (Option Bool) CheckFault) : Type 0 where
  pub told : Told mark returns result

-- what is marked and what is left are the returns of each function
pub record ReturnsAreMarked (all rest : List Bodied) (marks : List (Option Bool)) : Type 0 where
  pub same : (number : ℕ) → seen_behind (seen_by (mark_of marks number)) (returns_of rest number)
      ≡ seen_in (returns_of all number)

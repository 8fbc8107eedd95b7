-- The last zero byte of a text ends all names that end.
use Rattle.std.proofs.Common.{◌≡◌, ◌≢◌, ◌-◌, ◌<◌, ◌≤◌, ℕ, List, length, arith}
use Rattle.std.specs.Prelude.{slice_index}
use Rattle.amx_format.specs.Records.{IsClosed}

-- the place behind the last zero byte, or 0
pub record IsPast (text : List ℕ) (past : ℕ) : Type 0 where
  pub within : past ≤ length text
  pub zero : 0 < past → slice_index text (past - 1) ≡ 0
  pub last : (place : ℕ) → past ≤ place → place < length text → slice_index text place ≢ 0

pub closed_before : (text : List ℕ) (past place : ℕ) → IsPast text past → place < past
    → IsClosed text place
closed_before text past place it h = record {
  end = past - 1;
  behind = omega arith;
  within = omega (arith, it.within);
  zero = it.zero (omega arith);
}

pub open_behind : (text : List ℕ) (past place : ℕ) → IsPast text past → past ≤ place
    → ¬ IsClosed text place
open_behind text past place it h closed =
    it.last closed.end (omega (arith, closed.behind)) closed.within closed.zero

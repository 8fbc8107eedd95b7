use Rattle.std.proofs.Common.{◌≡◌, ◌≢◌, ◌-◌, ◌<◌, ◌≤◌, ℕ}
use Rattle.std.specs.Prelude.{slice_index}
use Rattle.amx_format.proofs.check.past_last_zero.Given as goal

abbrev pub invariant-loop-index : goal.invariant-loop-index
invariant-loop-index l = record {
  within : l.past ≤ l.index;
  zero : 0 < l.past → slice_index l.text (l.past - 1) ≡ 0;
  last : (place : ℕ) → l.past ≤ place → place < l.index → slice_index l.text place ≢ 0;
}

use Rattle.std.proofs.Common.{length, ◌-◌, ◌≡◌, ◌*◌, ◌≤◌, drop}
use Rattle.amx_verify.specs.Fronts.{whole_fault}
use Rattle.amx_verify.proofs.instructions.check_whole.Given as goal

abbrev pub invariant-loop-place : goal.invariant-loop-place
invariant-loop-place l = record {
  within : l.place ≤ length l.code;
  so_far : whole_fault l.natives (4 * l.place) (drop l.place l.code)
      ≡ whole_fault l.natives 0 l.code;
}

abbrev pub decreases-loop-place : goal.decreases-loop-place
decreases-loop-place l = length l.code - l.place

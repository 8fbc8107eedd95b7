use Rattle.std.proofs.Common.{◌≢◌, ◌≤◌, take}
use Rattle.std.specs.Prelude.{All}
use Rattle.amx_ops.proofs.name.name_within.Given as goal

abbrev pub invariant-loop-index : goal.invariant-loop-index
invariant-loop-index l =
    record { none : All (λ byte. byte ≢ 0) (take l.index l.text); few : l.index ≤ l.most }

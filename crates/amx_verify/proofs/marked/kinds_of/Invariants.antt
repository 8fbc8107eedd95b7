use Rattle.std.proofs.Common.{◌≡◌, ◌++◌, drop}
use Rattle.amx_verify.specs.Kinds as spec
use Rattle.amx_verify.proofs.marked.kinds_of.Given as goal

abbrev pub invariant-loop-place : goal.invariant-loop-place
invariant-loop-place l =
    l.kinds.items ++ spec.kinds l.passed (drop l.place l.cells) ≡ spec.kinds_of l.cells

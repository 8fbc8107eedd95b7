use Rattle.std.proofs.Common.{◌≡◌, drop}
use Rattle.host_script.specs.Characters.{has_zero}
use Rattle.host_script.proofs.arguments.has_zero.Given as goal

abbrev pub invariant-loop-cell : goal.invariant-loop-cell
invariant-loop-cell l = has_zero l.cells ≡ has_zero (drop l.cell-index l.cells)

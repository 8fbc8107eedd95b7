use Rattle.std.proofs.Common.{◌≡◌, ◌++◌, drop}
use Rattle.amx_format.specs.Layout.{cells}
use Rattle.amx_format.proofs.writer.put_plain.Given as goal

abbrev pub invariant-loop-cell : goal.invariant-loop-cell
invariant-loop-cell l = l.out ++ cells (drop l.cell-index l.row) ≡ l.initial.out ++ cells l.row

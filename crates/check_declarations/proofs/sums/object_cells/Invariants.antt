use Rattle.check_declarations.specs.ObjectCells.{Counted}
use Rattle.check_declarations.proofs.sums.object_cells.Given as goal

abbrev pub invariant-loop-i : goal.invariant-loop-i
invariant-loop-i l = Counted l.objects l.i l.sum

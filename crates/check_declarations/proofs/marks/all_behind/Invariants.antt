use Rattle.check_locals.specs.StoodView.{returned_view}
use Rattle.check_declarations.proofs.AgreeLaws.{SeenSoFar}
use Rattle.check_declarations.proofs.marks.all_behind.Given as goal

abbrev pub invariant-loop-it : goal.invariant-loop-it
invariant-loop-it l = SeenSoFar returned_view l.fn.mark l.returns l.last l.it-index

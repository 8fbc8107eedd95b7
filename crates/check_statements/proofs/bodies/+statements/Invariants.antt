use Rattle.check_locals.specs.PointView.{point_view}
use Rattle.check_locals.specs.Tells.{told}
use Rattle.check_locals.specs.StoodView.{stood_view}
use Rattle.check_switches.specs.CaseView.{parts_view}
use Rattle.check_statements.proofs.BlockLaws.{BlockSo, CasesSo}
use Rattle.check_statements.proofs.bodies.+statements.Given as goal

abbrev pub invariant-block-loop-i : goal.invariant-block-loop-i
invariant-block-loop-i l =
    BlockSo l.setting l.in_loop (point_view l.initial.point) (point_view l.point) l.items l.i
    (told stood_view l.done)

abbrev pub invariant-cases-loop-i : goal.invariant-cases-loop-i
invariant-cases-loop-i l =
    CasesSo l.setting l.in_loop (point_view l.initial.point) (point_view l.point) l.items l.i
    (told parts_view l.done)

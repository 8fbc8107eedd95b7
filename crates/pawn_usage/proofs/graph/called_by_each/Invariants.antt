use Rattle.std.proofs.Common.{[], map}
use Rattle.pawn_meaning.specs.View.{program_view, body_view}
use Rattle.pawn_usage.specs.Called.{called_by_bodies}
use Rattle.pawn_usage.proofs.GraphLaws.{IsMapped}
use Rattle.pawn_usage.proofs.graph.called_by_each.Given as goal

abbrev pub invariant-loop-i : goal.invariant-loop-i
invariant-loop-i l =
    IsMapped (λ it. called_by_bodies (program_view l.program) (map body_view it.bodies)) []
    l.functions l.i l.each

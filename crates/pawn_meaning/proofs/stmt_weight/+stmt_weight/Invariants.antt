use Rattle.std.proofs.Common.{◌+◌}
use Rattle.pawn_meaning.specs.View.{stmt_view}
use Rattle.pawn_meaning.specs.Weight.{stmt_weight, ranges_weight, alone_in}
use Rattle.pawn_meaning.proofs.Walks.{IsSum}
use Rattle.pawn_meaning.proofs.stmt_weight.+stmt_weight.Given as goal

abbrev pub invariant-stmts_weight-loop-i : goal.invariant-stmts_weight-loop-i
invariant-stmts_weight-loop-i l =
    IsSum (λ stmt. stmt_weight (alone_in l.lean) (stmt_view stmt)) l.items l.i l.sum

abbrev pub invariant-cases_weight-loop-i : goal.invariant-cases_weight-loop-i
invariant-cases_weight-loop-i l =
    IsSum (λ case. ranges_weight case.ranges + stmt_weight (alone_in l.lean) (stmt_view case.stmt))
    l.items l.i l.sum

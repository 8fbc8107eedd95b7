use Rattle.pawn_meaning.specs.Need.{stmt_load}
use Rattle.pawn_meaning.specs.View.{stmt_view}
use Rattle.pawn_meaning.proofs.Walks.{IsGreatest}
use Rattle.pawn_meaning.proofs.stmt_load.+stmt_load.Given as goal

abbrev pub invariant-stmts_load-loop-i : goal.invariant-stmts_load-loop-i
invariant-stmts_load-loop-i l =
    IsGreatest (λ stmt. stmt_load (stmt_view stmt)) l.items l.i l.greatest

abbrev pub invariant-cases_load-loop-i : goal.invariant-cases_load-loop-i
invariant-cases_load-loop-i l =
    IsGreatest (λ case. stmt_load (stmt_view case.stmt)) l.items l.i l.greatest

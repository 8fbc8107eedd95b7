use Rattle.pawn_meaning.specs.Need.{stmt_load}
use Rattle.pawn_meaning.specs.View.{stmt_view}
use Rattle.pawn_meaning.proofs.Walks.{IsGreatest}
use Rattle.pawn_meaning.proofs.needs.greatest_load.Given as goal

abbrev pub invariant-loop-i : goal.invariant-loop-i
invariant-loop-i l = IsGreatest (λ body. stmt_load (stmt_view body.stmt)) l.items l.i l.greatest

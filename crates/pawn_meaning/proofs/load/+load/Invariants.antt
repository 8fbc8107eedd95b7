use Rattle.pawn_meaning.specs.Need.{arg_load, load}
use Rattle.pawn_meaning.specs.View.{arg_view, expr_view}
use Rattle.pawn_meaning.proofs.Walks.{IsGreatest}
use Rattle.pawn_meaning.proofs.load.+load.Given as goal

abbrev pub invariant-call_load-loop-i : goal.invariant-call_load-loop-i
invariant-call_load-loop-i l = IsGreatest (λ arg. arg_load (arg_view arg)) l.items l.i l.greatest

abbrev pub invariant-links_load-loop-i : goal.invariant-links_load-loop-i
invariant-links_load-loop-i l =
    IsGreatest (λ link. load (expr_view link.operand)) l.items l.i l.greatest

use Rattle.pawn_meaning.specs.View.{arg_view}
use Rattle.pawn_meaning.specs.Weight.{arg_weight, alone_in}
use Rattle.pawn_meaning.proofs.Walks.{IsSum}
use Rattle.pawn_meaning.proofs.ChainWalk.{IsChained}
use Rattle.pawn_meaning.proofs.expr_weight.+weight.Given as goal

abbrev pub invariant-args_weight-loop-i : goal.invariant-args_weight-loop-i
invariant-args_weight-loop-i l =
    IsSum (λ arg. arg_weight (alone_in l.lean) (arg_view arg)) l.items l.i l.sum

abbrev pub invariant-weigh_links-loop-i : goal.invariant-weigh_links-loop-i
invariant-weigh_links-loop-i l =
    IsChained l.lean l.items l.fn.first l.i l.constant l.holds l.left l.weight

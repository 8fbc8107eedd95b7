use Rattle.pawn_meaning.specs.View.{arg_view}
use Rattle.pawn_usage.specs.Called.{called_in_arg}
use Rattle.pawn_usage.specs.Adds.{AddsSoFar}
use Rattle.pawn_usage.proofs.NodeLaws.{in_link}
use Rattle.pawn_usage.proofs.expressions.+expression.Given as goal

abbrev pub invariant-in_args-loop-i : goal.invariant-in_args-loop-i
invariant-in_args-loop-i l =
    AddsSoFar (λ x. called_in_arg (arg_view x)) l.items l.initial.out l.i l.out

abbrev pub invariant-in_links-loop-i : goal.invariant-in_links-loop-i
invariant-in_links-loop-i l = AddsSoFar in_link l.items l.initial.out l.i l.out

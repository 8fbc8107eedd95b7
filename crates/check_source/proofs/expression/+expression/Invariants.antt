use Rattle.pawn_tree.specs.View.{arg_view, link_view}
use Rattle.types_rules.specs.Called.{called_by_arg, called_by_link}
use Rattle.check_source.specs.Adds.{AddsSoFar}
use Rattle.check_source.proofs.expression.+expression.Given as goal

abbrev pub invariant-in_args-loop-i : goal.invariant-in_args-loop-i
invariant-in_args-loop-i l =
    AddsSoFar (λ x. called_by_arg (arg_view x)) l.items l.initial.out l.i l.out

abbrev pub invariant-in_links-loop-i : goal.invariant-in_links-loop-i
invariant-in_links-loop-i l =
    AddsSoFar (λ x. called_by_link (link_view x)) l.items l.initial.out l.i l.out

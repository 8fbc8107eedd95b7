use Rattle.check_nodes.specs.ContextView.{around_view}
use Rattle.pawn_meaning.specs.View.{args_view}
use Rattle.check_calls.proofs.ArgsLaws.{ArgsSoFar}
use Rattle.check_calls.proofs.defaults.args.Given as goal

abbrev pub invariant-loop-i : goal.invariant-loop-i
invariant-loop-i l =
    ArgsSoFar (around_view l.cx) l.at l.params l.fn.slots.items (args_view l.fn.others) l.i
    l.slots.items l.args

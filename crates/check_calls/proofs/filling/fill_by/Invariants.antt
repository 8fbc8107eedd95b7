use Rattle.std.proofs.Common.{length}
use Rattle.types_rules.specs.Filling.{nothing_filled, offer_step}
use Rattle.check_nodes.specs.ContextView.{around_view, head_view}
use Rattle.check_nodes.proofs.ThreadLaws.{Threaded}
use Rattle.check_calls.specs.FillingView.{filling_view, offer_view}
use Rattle.check_calls.proofs.filling.fill_by.Given as goal

abbrev pub invariant-loop-it : goal.invariant-loop-it
invariant-loop-it l =
    Threaded offer_view (offer_step (around_view l.cx) l.fn.at (head_view l.head))
    (nothing_filled (head_view l.head)) l.fn.offers.items (length l.yielded) (filling_view l.done)

use Rattle.names_sight.specs.Means.{around_view, means_view}
use Rattle.names_sight.specs.ValuedView.{valued_view}
use Rattle.names_sight.proofs.LinkLaws.{SoFar}
use Rattle.names_sight.proofs.constant_worth.+worth.Given as goal

abbrev pub invariant-links_hold-loop-i : goal.invariant-links_hold-loop-i
invariant-links_hold-loop-i l =
    SoFar (around_view l.cx) l.place (means_view l.cx) (valued_view l.fn.first) l.links l.i
    (valued_view l.left) l.holds

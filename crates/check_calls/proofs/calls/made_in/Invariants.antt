use Rattle.std.proofs.Common.{length, map}
use Rattle.pawn_meaning.specs.View.{object_view}
use Rattle.types_rules.specs.Calls.{offer_literals, offer_warned}
use Rattle.check_calls.specs.FillingView.{offer_view}
use Rattle.check_calls.proofs.MadeLaws.{Gathered}
use Rattle.check_calls.proofs.calls.made_in.Given as goal

abbrev pub invariant-loop-it : goal.invariant-loop-it
invariant-loop-it l =
    Gathered offer_view offer_literals l.fn.offers.items (length l.yielded)
    (map object_view l.made.literals)
    × Gathered offer_view offer_warned l.fn.offers.items (length l.yielded) l.made.warned

use Rattle.check_nodes.specs.ContextView.{around_view}
use Rattle.check_nodes.specs.Scopes.{scope_view}
use Rattle.check_expressions.proofs.LiteralCountLaws.{LinksJudged, OffersJudged}
use Rattle.check_expressions.proofs.expression.+expression.Given as goal

abbrev pub invariant-links_of-loop-i : goal.invariant-links_of-loop-i
invariant-links_of-loop-i l =
    LinksJudged (around_view l.cx) (scope_view l.scopes) l.initial.objects l.items l.i
    l.objects l.all

abbrev pub invariant-offers_of-loop-i : goal.invariant-offers_of-loop-i
invariant-offers_of-loop-i l =
    OffersJudged (around_view l.cx) (scope_view l.scopes) l.initial.objects l.items l.i
    l.objects l.all

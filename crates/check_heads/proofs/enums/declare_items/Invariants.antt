use Rattle.types_rules.specs.Enums.{nothing_counted}
use Rattle.check_nodes.specs.ContextView.{around_view}
use Rattle.check_nodes.specs.Scopes.{scope_view}
use Rattle.check_heads.specs.Counting.{counted}
use Rattle.check_heads.proofs.EnumLaws.{Declared}
use Rattle.check_heads.proofs.enums.declare_items.Given as goal

abbrev pub invariant-loop-i : goal.invariant-loop-i
invariant-loop-i l =
    Declared (around_view l.cx) l.at l.tag (nothing_counted (scope_view l.fn.scopes)) l.items l.i
    (counted (scope_view l.scopes) l.next)

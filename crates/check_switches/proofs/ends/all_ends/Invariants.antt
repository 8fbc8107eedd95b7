use Rattle.std.proofs.Common.{◌++◌, []}
use Rattle.pawn_tree.specs.View.{range_view}
use Rattle.types_rules.specs.Rule.{each}
use Rattle.types_rules.specs.Switches.{ends}
use Rattle.check_nodes.specs.ContextView.{around_view}
use Rattle.check_nodes.specs.Scopes.{scope_view}
use Rattle.check_locals.specs.Tells.{told}
use Rattle.check_switches.specs.CaseView.{all_ends_view}
use Rattle.check_switches.proofs.TakenLaws.{Taken}
use Rattle.check_switches.proofs.RuleLaws.{single, each_row}
use Rattle.check_switches.proofs.ends.all_ends.Given as goal

abbrev pub invariant-loop-i : goal.invariant-loop-i
invariant-loop-i l =
    Taken (λ x y. x ++ y) [] (single (ends (around_view l.cx) (scope_view l.scopes)))
    (each (ends (around_view l.cx) (scope_view l.scopes)))
    range_view (each_row (ends (around_view l.cx) (scope_view l.scopes))) l.ranges l.i
    (told all_ends_view l.done)

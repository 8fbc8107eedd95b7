use Rattle.check_nodes.specs.ContextView.{around_view}
use Rattle.check_nodes.specs.Scopes.{scope_view}
use Rattle.check_expressions.proofs.BracesLaws.{static_list, fails_here}
use Rattle.check_expressions.proofs.cells.static_given.Goals as goal

pub returns-in-Braces : goal.returns-in-Braces
returns-in-Braces c =
    rw (
      c.in-Braces.is,
      static_list (around_view c.args.here.cx.now) (scope_view c.args.here.scopes.now)
          c.args.here.at c.args.tag
          c.in-Braces.field-0 c.in-Braces.field-1 c.in-Braces.field-2,
    ) (fails_here _ c.args.here.at _ c.part_broken.ensures)

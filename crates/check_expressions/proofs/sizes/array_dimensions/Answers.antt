use Rattle.std.proofs.Common.{arith}
use Rattle.pawn_tree.specs.View.{dim_view}
use Rattle.check_nodes.specs.ContextView.{around_view}
use Rattle.check_nodes.specs.Scopes.{scope_view}
use Rattle.check_expressions.proofs.BracesLaws.{fails_here}
use Rattle.check_expressions.proofs.InnerLaws.{few_dimensions, many_dimensions}
use Rattle.check_expressions.proofs.sizes.array_dimensions.Goals as goal

pub returns-then-count-le2 : goal.returns-then-count-le2
returns-then-count-le2 c =
    rw (few_dimensions (around_view c.args.here.cx.now) (scope_view c.args.here.scopes.now)
    c.args.here.at
    (dim_view c.args.dim.now) c.args.dims.now (omega arith)) c.few_dimensions.ensures

pub returns-else-count-le2 : goal.returns-else-count-le2
returns-else-count-le2 c =
    rw (many_dimensions (around_view c.args.here.cx.now) (scope_view c.args.here.scopes.now)
    c.args.here.at
    (dim_view c.args.dim.now) c.args.dims.now (omega arith))
    (fails_here _ c.args.here.at _ c.part_broken.ensures)

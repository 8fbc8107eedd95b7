use Rattle.std.proofs.Common.{refl, arith}
use Rattle.check_nodes.specs.ContextView.{around_view}
use Rattle.check_nodes.specs.Scopes.{scope_view}
use Rattle.check_expressions.proofs.InnerLaws.{no_sizes, one_size, two_sizes}
use Rattle.check_expressions.proofs.sizes.sizes_behind.Goals as goal

pub returns-then-count-eq0 : goal.returns-then-count-eq0
returns-then-count-eq0 c =
    let none =
    no_sizes (around_view c.args.here.cx.now)
    (scope_view c.args.here.scopes.now) c.args.here.at c.args.dims.now (omega arith) in
    rw (none, c.new.ensures) refl

pub returns-then-count-eq1 : goal.returns-then-count-eq1
returns-then-count-eq1 c =
    rw (one_size (around_view c.args.here.cx.now)
    (scope_view c.args.here.scopes.now) c.args.here.at c.args.dims.now
    c.index-dims-0.result (omega arith) c.index-dims-0.is) c.one_inner.ensures

pub returns-else-count-eq1 : goal.returns-else-count-eq1
returns-else-count-eq1 c =
    rw (two_sizes (around_view c.args.here.cx.now)
    (scope_view c.args.here.scopes.now) c.args.here.at c.args.dims.now
    c.index-dims-0-else-count-eq1.result c.index-dims-1.result
    (omega arith) c.index-dims-0-else-count-eq1.is c.index-dims-1.is)
    c.two_inner.ensures

use Rattle.std.proofs.Common.{arith}
use Rattle.std.proofs.lemmas.Result.{err_from_is_err_and}
use Rattle.check_nodes.specs.ContextView.{around_view}
use Rattle.check_nodes.specs.Scopes.{scope_view}
use Rattle.check_expressions.proofs.BehindLaws.{cells_law, joins_begins, joins_more, joins_fails}
use Rattle.check_expressions.proofs.BehindLaws.{joins_answers}
use Rattle.check_expressions.proofs.firsts.cells_of_list.Goals as goal

pub loop-i-init : goal.loop-i-init
loop-i-init c = joins_begins _ _ _ c.nothing.ensures

pub loop-i-preserved : goal.loop-i-preserved
loop-i-preserved c =
    let law =
    cells_law (around_view c.args.here.cx.now)
    (scope_view c.args.here.scopes.now) c.args.here.at c.args.tag in
    joins_more _ _ law _ _ _ c.index-items-i.result _ c.loop-i.invariant
    (omega arith) c.index-items-i.is
    (c.in_ok-done.ensures _ c.cell_of_list-value.ensures)

pub returns-in_err-done : goal.returns-in_err-done
returns-in_err-done c =
    let law =
    cells_law (around_view c.args.here.cx.now)
    (scope_view c.args.here.scopes.now) c.args.here.at c.args.tag in
    let p = err_from_is_err_and c.from_residual.result c.from_residual.ensures.1 in
    rw (← c.as_slice-items.ensures, p.1, p.2)
    (joins_fails _ _ law _ _ _ c.index-items-i.result _ c.loop-i.invariant
    (omega arith) c.index-items-i.is
    (c.in_err-done.ensures _ c.cell_of_list-value.ensures))

pub returns : goal.returns
returns c =
    let law =
    cells_law (around_view c.args.here.cx.now)
    (scope_view c.args.here.scopes.now) c.args.here.at c.args.tag in
    rw (← c.as_slice-items.ensures)
    (joins_answers _ _ law _ _ _ c.all_joined.result c.loop-i.invariant
    (omega arith) c.all_joined.ensures)

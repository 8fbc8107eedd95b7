use Rattle.std.proofs.Common.{arith}
use Rattle.std.proofs.lemmas.Result.{err_from_is_err_and}
use Rattle.pawn_arrays.specs.Sizes.{sizes}
use Rattle.check_nodes.specs.ContextView.{around_view}
use Rattle.check_nodes.specs.Scopes.{scope_view}
use Rattle.check_expressions.proofs.BehindLaws.{rows_law, joins_begins, joins_more, joins_fails}
use Rattle.check_expressions.proofs.BehindLaws.{joins_answers}
use Rattle.check_expressions.proofs.BracesLaws.{first_list}
use Rattle.check_expressions.proofs.firsts.+first.Goals as goal

pub first_cells-returns-in-Braces : goal.first_cells-returns-in-Braces
first_cells-returns-in-Braces t c =
    rw (
      c.in-Braces.is,
      first_list (around_view c.args.here.cx.now) (scope_view c.args.here.scopes.now)
          c.args.here.at c.args.tag
          c.in-Braces.field-0 c.in-Braces.list c.in-Braces.goes_on (sizes c.args.shape.now),
    ) c.listed.ensures

pub rows-loop-i-init : goal.rows-loop-i-init
rows-loop-i-init t c = joins_begins _ _ _ c.nothing.ensures

pub rows-loop-i-preserved : goal.rows-loop-i-preserved
rows-loop-i-preserved t c =
    let law =
    rows_law (around_view c.args.here.cx.now) (scope_view c.args.here.scopes.now) c.args.here.at
    c.args.tag
    (sizes c.args.part.now) in
    joins_more _ _ law _ _ _ c.index-items-i.result _ c.loop-i.invariant
    (omega arith) c.index-items-i.is
    (c.in_ok-done.ensures _ c.first_cells-row.ensures)

pub rows-returns-in_err-done : goal.rows-returns-in_err-done
rows-returns-in_err-done t c =
    let law =
    rows_law (around_view c.args.here.cx.now) (scope_view c.args.here.scopes.now) c.args.here.at
    c.args.tag
    (sizes c.args.part.now) in
    let p = err_from_is_err_and c.from_residual.result c.from_residual.ensures.1 in
    rw (← c.as_slice-items.ensures, p.1, p.2)
    (joins_fails _ _ law _ _ _ c.index-items-i.result _ c.loop-i.invariant
    (omega arith) c.index-items-i.is
    (c.in_err-done.ensures _ c.first_cells-row.ensures))

pub rows-returns : goal.rows-returns
rows-returns t c =
    let law =
    rows_law (around_view c.args.here.cx.now) (scope_view c.args.here.scopes.now) c.args.here.at
    c.args.tag
    (sizes c.args.part.now) in
    rw (← c.as_slice-items.ensures)
    (joins_answers _ _ law _ _ _ c.all_joined.result c.loop-i.invariant
    (omega arith) c.all_joined.ensures)

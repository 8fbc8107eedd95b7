use Rattle.std.proofs.Common.{map, arith}
use Rattle.std.proofs.lemmas.Result.{err_from_is_err_and}
use Rattle.check_source.specs.WrittenView.{written_view}
use Rattle.check_functions.specs.Group.{params_by}
use Rattle.check_functions.proofs.FindsLaws.{map_at, so_far_more, so_far_fails}
use Rattle.check_functions.proofs.group.all_params.Goals as goal

pub returns-in_err-params : goal.returns-in_err-params
returns-in_err-params c =
    let p = err_from_is_err_and c.from_residual.result c.from_residual.ensures.1 in
    let at =
    map_at written_view c.args.bodies.now c.loop-it.it-index c.it-item.result
    (omega arith) c.it-item.is in
    rw (p.1, p.2)
    (so_far_fails (params_by c.args.none) (map written_view c.args.bodies.now) c.loop-it.it-index
    (written_view c.it-item.result) _ c.loop-it.invariant at.0 at.1
    c.in_err-params.ensures)

pub loop-it-preserved : goal.loop-it-preserved
loop-it-preserved c =
    let at =
    map_at written_view c.args.bodies.now c.loop-it.it-index c.it-item.result
    (omega arith) c.it-item.is in
    so_far_more (params_by c.args.none) (map written_view c.args.bodies.now) c.loop-it.it-index
    (written_view c.it-item.result) _ c.loop-it.invariant at.0 at.1
    c.in_ok-params.ensures

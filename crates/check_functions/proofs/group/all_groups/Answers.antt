use Rattle.std.proofs.Common.{arith}
use Rattle.std.proofs.lemmas.Result.{err_from_is_err_and}
use Rattle.check_source.specs.GroupsView.{group_view, groups_view}
use Rattle.check_functions.specs.Group.{bodies_and_params}
use Rattle.check_functions.proofs.FindsLaws.{map_at, so_far_more, so_far_fails}
use Rattle.check_functions.proofs.group.all_groups.Goals as goal

pub returns-in_err-group_bodies : goal.returns-in_err-group_bodies
returns-in_err-group_bodies c =
    let p = err_from_is_err_and c.from_residual.result c.from_residual.ensures.1 in
    let at =
    map_at group_view c.args.groups.now c.loop-it.it-index c.it-item.result
    (omega arith) c.it-item.is in
    rw (p.1, p.2)
    (so_far_fails bodies_and_params (groups_view c.args.groups.now) c.loop-it.it-index
    (group_view c.it-item.result) _ c.loop-it.invariant at.0 at.1
    c.in_err-group_bodies.ensures)

pub loop-it-preserved : goal.loop-it-preserved
loop-it-preserved c =
    let at =
    map_at group_view c.args.groups.now c.loop-it.it-index c.it-item.result
    (omega arith) c.it-item.is in
    so_far_more bodies_and_params (groups_view c.args.groups.now) c.loop-it.it-index
    (group_view c.it-item.result) _ c.loop-it.invariant at.0 at.1
    c.in_ok-group_bodies.ensures

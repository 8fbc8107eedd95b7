use Rattle.std.proofs.Common.{◌≡◌, ◌<◌, ◌≤◌, length, ap, arith, below_more}
use Rattle.std.proofs.lemmas.Result.{err_from_is_err_and}
use Rattle.check_source.specs.GroupsView.{groups_view, group_view}
use Rattle.check_source.specs.SourceView.{source_view}
use Rattle.check_functions.specs.HeadsView.{heads_view}
use Rattle.check_functions.proofs.AtLaws.{seen_at, within, past}
use Rattle.check_functions.proofs.OwnLaws.{has_number}
use Rattle.check_functions.proofs.TellLaws.{group_none, group_told}
use Rattle.check_functions.proofs.heads.check_groups.Goals as goal

pub check_group-requires-clause-known : goal.check_group-requires-clause-known
check_group-requires-clause-known c =
    has_number (groups_view c.args.source.now.groups) c.loop-n.n
    (group_view c.index-groups-n.result)
    (seen_at group_view c.as_slice-groups.ensures c.index-groups-n.is (omega arith))

pub loop-n-preserved : goal.loop-n-preserved
loop-n-preserved c =
    let here = seen_at group_view c.as_slice-groups.ensures c.index-groups-n.is (omega arith) in
    below_more _ _ c.loop-n.invariant
    (group_none (source_view c.args.source.now)
    (heads_view c.args.heads.now) c.args.place c.loop-n.n
    (group_view c.index-groups-n.result) _ here c.in_ok-check_group.ensures)

pub returns-in_err-check_group : goal.returns-in_err-check_group
returns-in_err-check_group c =
    let p = err_from_is_err_and c.from_residual.result c.from_residual.ensures.1 in
    let long : length c.as_slice-groups.result.now ≡ length c.args.source.now.groups =
    ap length c.as_slice-groups.ensures in
    let less : c.loop-n.n < length c.args.source.now.groups = omega arith in
    let here = seen_at group_view c.as_slice-groups.ensures c.index-groups-n.is (omega arith) in
    rw (p.1, p.2)
    (group_told (source_view c.args.source.now)
    (heads_view c.args.heads.now) c.args.place c.loop-n.n (group_view c.index-groups-n.result) _
    (within group_view c.args.source.now.groups c.loop-n.n less) here c.in_err-check_group.ensures)

pub returns : goal.returns
returns c =
    let long : length c.as_slice-groups.result.now ≤ c.loop-n.n = omega arith in
    let end : length (groups_view c.args.source.now.groups) ≤ c.loop-n.n =
    past group_view c.args.source.now.groups c.as_slice-groups.result.now c.loop-n.n
    c.as_slice-groups.ensures long in
    record {
      told = λ n lt. let less : n < c.loop-n.n = omega (arith, lt, end) in c.loop-n.invariant
          n less;
    }

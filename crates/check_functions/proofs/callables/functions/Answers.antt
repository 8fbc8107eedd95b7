use Rattle.std.proofs.Common.{◌≤◌, map, length, arith}
use Rattle.types_rules.specs.Sources as spec
use Rattle.check_nodes.specs.ContextView.{callable_view}
use Rattle.check_source.specs.GroupsView.{groups_view, group_view}
use Rattle.check_source.specs.HeadingView.{heading_view}
use Rattle.check_source.specs.SourceView.{source_view}
use Rattle.check_functions.specs.HeadsView.{heads_view}
use Rattle.check_functions.proofs.AtLaws.{some_seen, past}
use Rattle.check_functions.proofs.EndLaws.{one_function, functions_past}
use Rattle.check_functions.proofs.callables.functions.Goals as goal

pub loop-i-preserved : goal.loop-i-preserved
loop-i-preserved c =
    let at = some_seen group_view c.loop-i.i c.as_slice-i-end.ensures (omega arith) in
    one_function (source_view c.args.source.now)
    (spec.stated (source_view c.args.source.now) (map heading_view c.args.source.now.headings)
    (heads_view c.args.heads.now))
    (groups_view c.args.source.now.groups) c.loop-i.i at.0 c.loop-i.list c.push.new.self
    c.in_ok-it.it _ c.loop-i.invariant at.1 c.in_ok-push.ensures.ok
    (c.in_ok-it.ensures at.0 at.1)

pub returns : goal.returns
returns c =
    let le : length c.as_slice-i-end.result.now ≤ c.loop-i.i = omega arith in
    functions_past (source_view c.args.source.now)
    (spec.stated (source_view c.args.source.now) (map heading_view c.args.source.now.headings)
    (heads_view c.args.heads.now))
    (groups_view c.args.source.now.groups) c.loop-i.i (map callable_view c.loop-i.list) _
    (past group_view c.args.source.now.groups c.as_slice-i-end.result.now c.loop-i.i
    c.as_slice-i-end.ensures le)
    c.loop-i.invariant

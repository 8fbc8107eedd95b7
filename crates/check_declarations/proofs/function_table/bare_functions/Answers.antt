use Rattle.std.proofs.Common.{◌≤◌, [], map, length, arith}
use Rattle.pawn_meaning.specs.View.{function_view}
use Rattle.types_rules.specs.Sources.{stated}
use Rattle.check_source.specs.GroupsView.{groups_view, group_view}
use Rattle.check_source.specs.HeadingView.{heading_view}
use Rattle.check_source.specs.SourceView.{source_view}
use Rattle.check_functions.proofs.AtLaws.{some_seen, past}
use Rattle.check_declarations.proofs.FillLaws.{bare_more, bare_all}
use Rattle.check_declarations.proofs.function_table.bare_functions.Goals as goal

pub loop-i-preserved : goal.loop-i-preserved
loop-i-preserved c =
    let at = some_seen group_view c.loop-i.i c.as_slice-i-end.ensures (omega arith) in
    bare_more (source_view c.args.source.now)
    (stated (source_view c.args.source.now) (map heading_view c.args.source.now.headings) [])
    (groups_view c.args.source.now.groups) c.loop-i.i at.0 c.loop-i.functions.items
    c.push.new.self.items c.in_ok-it.it _ c.loop-i.invariant at.1 c.in_ok-push.ensures.items
    (c.in_ok-it.ensures at.0 at.1)

pub returns : goal.returns
returns c =
    let le : length c.as_slice-i-end.result.now ≤ c.loop-i.i = omega arith in
    bare_all (source_view c.args.source.now)
    (stated (source_view c.args.source.now) (map heading_view c.args.source.now.headings) [])
    (groups_view c.args.source.now.groups) c.loop-i.i (map function_view c.loop-i.functions.items) _
    (past group_view c.args.source.now.groups c.as_slice-i-end.result.now c.loop-i.i
    c.as_slice-i-end.ensures le)
    c.loop-i.invariant

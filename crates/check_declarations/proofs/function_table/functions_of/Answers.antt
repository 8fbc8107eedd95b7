use Rattle.std.proofs.Common.{[], map, ap, ◌∙◌}
use Rattle.pawn_meaning.specs.View.{function_view}
use Rattle.types_rules.specs.Sources.{stated}
use Rattle.check_declarations.specs.DoneView.{bodied_view}
use Rattle.check_source.specs.GroupsView.{groups_view}
use Rattle.check_source.specs.HeadingView.{heading_view}
use Rattle.check_source.specs.SourceView.{source_view}
use Rattle.check_declarations.proofs.FillLaws.{all_filled}
use Rattle.check_declarations.proofs.function_table.functions_of.Goals as goal

pub returns : goal.returns
returns c =
    ap (map function_view) c.from_vec.ensures
    ∙ all_filled (source_view c.args.source.now)
    (stated (source_view c.args.source.now) (map heading_view c.args.source.now.headings) [])
    (groups_view c.args.source.now.groups) (map function_view c.in_ok-functions.functions.items) _
    (map bodied_view c.args.bodies.items)
    c.in_ok-functions.ensures c.in_ok-fill.ensures

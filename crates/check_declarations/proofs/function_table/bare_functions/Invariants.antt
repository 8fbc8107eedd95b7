use Rattle.std.proofs.Common.{◌≡◌, ◌++◌, [], map, drop}
use Rattle.pawn_meaning.specs.View.{function_view}
use Rattle.types_rules.specs.Programs as spec
use Rattle.types_rules.specs.Sources.{stated}
use Rattle.check_source.specs.GroupsView.{groups_view}
use Rattle.check_source.specs.HeadingView.{heading_view}
use Rattle.check_source.specs.SourceView.{source_view}
use Rattle.check_declarations.proofs.function_table.bare_functions.Given as goal

abbrev pub invariant-loop-i : goal.invariant-loop-i
invariant-loop-i l =
    map function_view l.functions.items
    ++ spec.program_functions (source_view l.source)
    (stated (source_view l.source) (map heading_view l.source.headings) [])
    l.i (drop l.i (groups_view l.source.groups)) []
    ≡ spec.program_functions (source_view l.source)
    (stated (source_view l.source) (map heading_view l.source.headings) [])
    0 (groups_view l.source.groups) []

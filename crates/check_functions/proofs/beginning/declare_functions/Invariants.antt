use Rattle.std.proofs.Common.{[], map, drop}
use Rattle.types_rules.specs.Sources as spec
use Rattle.check_source.specs.GroupsView.{groups_view}
use Rattle.check_source.specs.HeadingView.{heading_view}
use Rattle.check_source.specs.SourceView.{source_view}
use Rattle.check_functions.proofs.DeclaresLaws.{DeclaresSoFar}
use Rattle.check_functions.proofs.beginning.declare_functions.Given as goal

abbrev pub invariant-loop-i : goal.invariant-loop-i
invariant-loop-i l =
    DeclaresSoFar l.initial.scopes l.scopes
    (spec.function_entries (source_view l.source) l.i
    (spec.stated (source_view l.source) (map heading_view l.source.headings) [])
    (drop l.i (groups_view l.source.groups)))
    (spec.function_entries (source_view l.source) 0
    (spec.stated (source_view l.source) (map heading_view l.source.headings) [])
    (groups_view l.source.groups))

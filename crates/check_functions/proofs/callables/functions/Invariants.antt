use Rattle.std.proofs.Common.{◌≡◌, ◌++◌, map, drop}
use Rattle.types_rules.specs.Sources as spec
use Rattle.check_nodes.specs.ContextView.{callable_view}
use Rattle.check_source.specs.GroupsView.{groups_view}
use Rattle.check_source.specs.HeadingView.{heading_view}
use Rattle.check_source.specs.SourceView.{source_view}
use Rattle.check_functions.specs.HeadsView.{heads_view}
use Rattle.check_functions.proofs.callables.functions.Given as goal

abbrev pub invariant-loop-i : goal.invariant-loop-i
invariant-loop-i l =
    map callable_view l.list
    ++ spec.functions_from (source_view l.source) l.i
    (spec.stated (source_view l.source) (map heading_view l.source.headings) (heads_view l.heads))
    (drop l.i (groups_view l.source.groups))
    ≡ spec.functions_from (source_view l.source) 0
    (spec.stated (source_view l.source) (map heading_view l.source.headings) (heads_view l.heads))
    (groups_view l.source.groups)

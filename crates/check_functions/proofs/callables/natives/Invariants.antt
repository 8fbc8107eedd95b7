use Rattle.std.proofs.Common.{◌≡◌, ◌++◌, map, drop}
use Rattle.types_rules.specs.Sources as spec
use Rattle.check_nodes.specs.ContextView.{callable_view}
use Rattle.check_source.specs.HeadingView.{heading_view}
use Rattle.check_source.specs.SourceView.{source_view}
use Rattle.check_functions.specs.HeadsView.{heads_view}
use Rattle.check_functions.proofs.callables.natives.Given as goal

abbrev pub invariant-loop-i : goal.invariant-loop-i
invariant-loop-i l =
    map callable_view l.list
    ++ spec.natives_from (source_view l.source) l.number (spec.natives_in (source_view l.source)
    (spec.stated (source_view l.source) (drop l.i (map heading_view l.source.headings))
    (drop l.i (heads_view l.heads))))
    ≡ spec.natives_from (source_view l.source) 0 (spec.natives_in (source_view l.source)
    (spec.stated (source_view l.source) (map heading_view l.source.headings) (heads_view l.heads)))

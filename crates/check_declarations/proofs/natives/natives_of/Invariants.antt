use Rattle.std.proofs.Common.{◌≡◌, ◌++◌, [], map, drop}
use Rattle.types_rules.specs.Programs as spec
use Rattle.types_rules.specs.Sources.{stated}
use Rattle.check_source.specs.HeadingView.{heading_view}
use Rattle.check_source.specs.SourceView.{source_view}
use Rattle.check_declarations.proofs.natives.natives_of.Given as goal

abbrev pub invariant-loop-i : goal.invariant-loop-i
invariant-loop-i l =
    l.list
    ++ spec.natives (source_view l.source)
    (stated (source_view l.source) (drop l.i (map heading_view l.source.headings)) [])
    ≡ spec.natives (source_view l.source)
    (stated (source_view l.source) (map heading_view l.source.headings) [])

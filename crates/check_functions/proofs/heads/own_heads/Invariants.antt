use Rattle.std.proofs.Common.{◌≡◌, ◌<◌, ℕ, [], map}
use Rattle.types_rules.specs.Sources.{stated}
use Rattle.check_source.specs.HeadingView.{heading_view}
use Rattle.check_source.specs.SourceView.{source_view}
use Rattle.check_functions.specs.HeadsView.{heads_view}
use Rattle.check_functions.specs.Differ as spec
use Rattle.check_functions.proofs.heads.own_heads.Given as goal

abbrev pub invariant-loop-i : goal.invariant-loop-i
invariant-loop-i l =
    (j : ℕ) → j < l.i → spec.own_faults (source_view l.source)
    (stated (source_view l.source) (map heading_view l.source.headings) (heads_view l.heads)) j
    ≡ []

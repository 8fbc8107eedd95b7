use Rattle.std.proofs.Common.{◌≡◌, ◌<◌, ℕ, [], true, map}
use Rattle.types_rules.specs.Sources.{stated}
use Rattle.check_source.specs.HeadingView.{heading_view}
use Rattle.check_source.specs.SourceView.{source_view}
use Rattle.check_functions.specs.HeadsView.{heads_view}
use Rattle.check_functions.specs.Differ as spec
use Rattle.check_functions.proofs.heads.check_groups.Given as goal

abbrev pub invariant-loop-n : goal.invariant-loop-n
invariant-loop-n l =
    (j : ℕ) → j < l.n → spec.forward_faults (source_view l.source)
    (stated (source_view l.source) (map heading_view l.source.headings) (heads_view l.heads))
    l.place true j ≡ []

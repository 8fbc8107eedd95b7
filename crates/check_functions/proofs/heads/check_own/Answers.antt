use Rattle.std.proofs.Common.{Option, map, subst}
use Rattle.types_rules.specs.Keys.{Key}
use Rattle.types_rules.specs.Sources.{stated}
use Rattle.check_functions.specs.Finds.{Finds}
use Rattle.check_source.specs.HeadingView.{heading_view}
use Rattle.check_source.specs.SourceView.{source_view}
use Rattle.check_functions.specs.HeadsView.{heads_view}
use Rattle.check_functions.specs.Differ as spec
use Rattle.check_functions.proofs.heads.check_own.Goals as goal

pub returns : goal.returns
returns c =
    subst (λ (k : Option Key). Finds
    (spec.key_faults (source_view c.args.source.now) (stated (source_view c.args.source.now)
    (map heading_view c.args.source.now.headings) (heads_view c.args.heads.now)) c.args.place k)
    c.check_own_key.result)
    c.own_key-key.ensures c.check_own_key.ensures

use Rattle.std.proofs.Common.{ℕ, Option, map, sym, subst}
use Rattle.types_rules.specs.Sources.{stated}
use Rattle.check_source.specs.HeadingView.{heading_view}
use Rattle.check_source.specs.SourceView.{source_view}
use Rattle.check_functions.specs.Finds.{Finds}
use Rattle.check_functions.specs.HeadsView.{heads_view}
use Rattle.check_functions.specs.Differ.{place_faults}
use Rattle.check_functions.proofs.TellLaws.{compared}
use Rattle.check_functions.proofs.against.against.Goals as goal

pub returns-else-first-place : goal.returns-else-first-place
returns-else-first-place c =
    subst (λ (o : Option ℕ). Finds
    (place_faults (source_view c.args.source.now) (stated (source_view c.args.source.now)
    (map heading_view c.args.source.now.headings) (heads_view c.args.heads.now)) o c.args.place)
    c.compare.result)
    (sym c.in-Some.is)
    (compared (source_view c.args.source.now)
    (heads_view c.args.heads.now) c.in-Some.first c.args.place c.compare.result
    c.if-first-place.false c.compare.ensures)

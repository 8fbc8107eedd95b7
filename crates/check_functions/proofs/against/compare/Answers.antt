use Rattle.std.proofs.Common.{Option, option_map, map, subst}
use Rattle.types_rules.specs.Headings.{Heading}
use Rattle.check_source.specs.HeadingView.{heading_view}
use Rattle.check_source.specs.SourceView.{source_view}
use Rattle.check_functions.specs.Finds.{Finds}
use Rattle.check_functions.specs.HeadsView.{heads_view}
use Rattle.check_functions.specs.Stated.{head_at}
use Rattle.check_functions.specs.Differ.{differing_by, stated_at}
use Rattle.check_functions.proofs.TellLaws.{first_gone}
use Rattle.check_functions.proofs.against.compare.Goals as goal

pub returns-in-None : goal.returns-in-None
returns-in-None c =
    first_gone (source_view c.args.source.now) (map heading_view c.args.source.now.headings)
    (heads_view c.args.heads.now) c.args.first c.args.place _ c.in-None.ensures

pub returns-in-Some : goal.returns-in-Some
returns-in-Some c =
    subst (λ (o : Option Heading). Finds (differing_by (source_view c.args.source.now)
    (option_map (λ (it : Heading). record
    { heading = it; head = head_at (heads_view c.args.heads.now) c.args.first }) o)
    (stated_at (map heading_view c.args.source.now.headings)
    (heads_view c.args.heads.now) c.args.place)) c.compare_with.result)
    c.in-Some.ensures c.compare_with.ensures

use Rattle.std.proofs.Common.{Option, option_map, map, ap, ◌∙◌}
use Rattle.types_rules.specs.Around.{Head}
use Rattle.types_rules.specs.Headings.{Heading}
use Rattle.check_source.specs.HeadingView.{heading_view}
use Rattle.check_source.specs.SourceView.{source_view}
use Rattle.check_nodes.specs.ContextView.{head_view}
use Rattle.check_functions.specs.HeadsView.{heads_view}
use Rattle.check_functions.specs.Stated.{head_at}
use Rattle.check_functions.specs.Differ.{stated_at}
use Rattle.check_functions.specs.EntryForwards.{are_unlike}
use Rattle.check_functions.proofs.forwards.unlike.Goals as goal

pub returns-in-None : goal.returns-in-None
returns-in-None c =
    ap (λ (o : Option Heading). are_unlike (source_view c.args.source.now)
    (option_map (λ (it : Heading). record
    { heading = it; head = head_at (heads_view c.args.heads.now) c.args.first }) o)
    (stated_at (map heading_view c.args.source.now.headings)
    (heads_view c.args.heads.now) c.args.place))
    c.in-None.ensures

pub returns-in-Some : goal.returns-in-Some
returns-in-Some c =
    c.unlike_with.ensures
    ∙ ap (λ (o : Option Heading). are_unlike (source_view c.args.source.now)
    (option_map (λ (it : Heading). record
    { heading = it; head = head_at (heads_view c.args.heads.now) c.args.first }) o)
    (stated_at (map heading_view c.args.source.now.headings)
    (heads_view c.args.heads.now) c.args.place))
    c.in-Some.ensures

use Rattle.std.proofs.Common.{Option, Some, option_map, ap, ◌∙◌}
use Rattle.types_rules.specs.Around.{Head}
use Rattle.types_rules.specs.Headings.{Heading}
use Rattle.check_source.specs.HeadingView.{heading_view}
use Rattle.check_source.specs.SourceView.{source_view}
use Rattle.check_nodes.specs.ContextView.{head_view}
use Rattle.check_functions.specs.HeadsView.{heads_view}
use Rattle.check_functions.specs.Stated.{head_at}
use Rattle.check_functions.specs.EntryForwards.{is_forward}
use Rattle.check_functions.proofs.forwards.stands_at.Goals as goal

pub returns-in-None : goal.returns-in-None
returns-in-None c =
    ap (λ (o : Option Heading). is_forward
    (option_map (λ (it : Heading). record
    { heading = it; head = head_at (heads_view c.args.heads.now) c.args.place }) o))
    c.in-None.ensures

pub returns-in-Some : goal.returns-in-Some
returns-in-Some c =
    c.is_standing.ensures
    ∙ ap (λ (h : Option Head). is_forward
    (Some (record { heading = heading_view c.in-Some.it.now; head = h })))
    c.head_in-head.ensures
    ∙ ap (λ (o : Option Heading). is_forward
    (option_map (λ (it : Heading). record
    { heading = it; head = head_at (heads_view c.args.heads.now) c.args.place }) o))
    c.in-Some.ensures

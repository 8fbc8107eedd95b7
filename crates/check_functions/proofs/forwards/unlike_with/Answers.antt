use Rattle.std.proofs.Common.{Option, Some, option_map, ap, ap₂, ◌∙◌}
use Rattle.types_rules.specs.Around.{Head}
use Rattle.types_rules.specs.Headings.{Heading}
use Rattle.check_source.specs.HeadingView.{heading_view}
use Rattle.check_source.specs.SourceView.{source_view}
use Rattle.check_nodes.specs.ContextView.{head_view}
use Rattle.check_functions.specs.HeadsView.{heads_view}
use Rattle.check_functions.specs.Stated.{head_at}
use Rattle.check_functions.specs.Differ.{differs_by}
use Rattle.check_functions.specs.EntryForwards.{are_unlike}
use Rattle.check_functions.proofs.forwards.unlike_with.Goals as goal

pub returns-in-None : goal.returns-in-None
returns-in-None c =
    ap (λ (o : Option Heading). are_unlike (source_view c.args.source.now)
    (Some (record {
      heading = heading_view c.args.x.now;
      head = head_at (heads_view c.args.heads.now) c.args.first;
    }))
    (option_map (λ (it : Heading). record
    { heading = it; head = head_at (heads_view c.args.heads.now) c.args.place }) o))
    c.in-None.ensures

pub returns-in-Some : goal.returns-in-Some
returns-in-Some c =
    c.differs.ensures
    ∙ ap₂ (λ (h k : Option Head). differs_by (source_view c.args.source.now)
    (heading_view c.args.x.now) h (heading_view c.in-Some.y.now) k)
    c.head_in-x_head.ensures c.head_in-y_head.ensures
    ∙ ap (λ (o : Option Heading). are_unlike (source_view c.args.source.now)
    (Some (record {
      heading = heading_view c.args.x.now;
      head = head_at (heads_view c.args.heads.now) c.args.first;
    }))
    (option_map (λ (it : Heading). record
    { heading = it; head = head_at (heads_view c.args.heads.now) c.args.place }) o))
    c.in-Some.ensures

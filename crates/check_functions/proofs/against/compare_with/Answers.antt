use Rattle.std.proofs.Common.{Option, Some, option_map, map, subst}
use Rattle.types_rules.specs.Around.{Head}
use Rattle.types_rules.specs.Headings.{Heading}
use Rattle.types_rules.specs.Functions as functions
use Rattle.check_source.specs.HeadingView.{heading_view}
use Rattle.check_source.specs.SourceView.{source_view}
use Rattle.check_nodes.specs.ContextView.{head_view}
use Rattle.check_functions.specs.Finds.{Finds}
use Rattle.check_functions.specs.HeadsView.{heads_view}
use Rattle.check_functions.specs.Stated.{head_at}
use Rattle.check_functions.specs.Differ.{differing_by}
use Rattle.check_functions.proofs.TellLaws.{other_gone}
use Rattle.check_functions.proofs.against.compare_with.Goals as goal

pub returns-in-None : goal.returns-in-None
returns-in-None c =
    other_gone (source_view c.args.source.now) (map heading_view c.args.source.now.headings)
    (heads_view c.args.heads.now) c.args.first c.args.place _
    (record {
      heading = heading_view c.args.x.now;
      head = head_at (heads_view c.args.heads.now) c.args.first;
    }) c.in-None.ensures

pub returns-in-Some : goal.returns-in-Some
returns-in-Some c =
    subst (λ (o : Option Heading). Finds (differing_by (source_view c.args.source.now)
    (Some (record {
      heading = heading_view c.args.x.now;
      head = head_at (heads_view c.args.heads.now) c.args.first;
    }))
    (option_map (λ (it : Heading). record
    { heading = it; head = head_at (heads_view c.args.heads.now) c.args.place }) o))
    c.differing.result)
    c.in-Some.ensures
    (subst (λ (h : Option Head). Finds (functions.differing (source_view c.args.source.now)
    (record { heading = heading_view c.args.x.now; head = h })
    (record {
      heading = heading_view c.in-Some.y.now;
      head = head_at (heads_view c.args.heads.now) c.args.place;
    })) c.differing.result)
    c.head_in-x_head.ensures
    (subst (λ (h : Option Head). Finds (functions.differing (source_view c.args.source.now)
    (record {
      heading = heading_view c.args.x.now;
      head = option_map (λ it. head_view it.now) c.head_in-x_head.result;
    })
    (record { heading = heading_view c.in-Some.y.now; head = h })) c.differing.result)
    c.head_in-y_head.ensures c.differing.ensures))

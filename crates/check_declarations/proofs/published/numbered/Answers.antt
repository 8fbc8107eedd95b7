use Rattle.std.proofs.Common.{List, ap, ◌∙◌, arith}
use Rattle.types_rules.specs.Publics.{publics_from}
use Rattle.check_source.specs.declared.groups.Group.{Group}
use Rattle.check_source.specs.GroupsView.{group_view, groups_view}
use Rattle.check_source.specs.SourceView.{source_view}
use Rattle.check_functions.proofs.AtLaws.{viewed_here}
use Rattle.check_declarations.proofs.PublishedLaws.{numbered_more, numbered_all}
use Rattle.check_declarations.proofs.published.numbered.Goals as goal

pub loop-i-preserved : goal.loop-i-preserved
loop-i-preserved c =
    let groups = c.as_slice-groups.result.now in
    let group = c.index-groups-i.result in
    numbered_more (source_view c.args.source.now) (groups_view groups) c.loop-i.i
    (group_view group) _ _
    c.loop-i.invariant
    (viewed_here group_view groups c.loop-i.i group (omega arith) c.index-groups-i.is)
    c.in_ok-add_public.ensures

pub returns : goal.returns
returns c =
    numbered_all (source_view c.args.source.now) c.as_slice-groups.result.now c.loop-i.i _
    c.loop-i.invariant
    (omega arith)
    ∙ ap (λ (groups : List Group). publics_from (source_view c.args.source.now) 0
    (groups_view groups))
    c.as_slice-groups.ensures

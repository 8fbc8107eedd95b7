use Rattle.std.proofs.Common.{map, sym, ap, ◌∙◌, position}
use Rattle.types_rules.specs.Groups.{Group}
use Rattle.types_rules.specs.Headings.{belongs}
use Rattle.check_nodes.specs.ContextView.{callable_view}
use Rattle.check_source.specs.GroupsView.{groups_view, group_view}
use Rattle.check_source.specs.HeadingView.{heading_view}
use Rattle.check_source.specs.SourceView.{source_view}
use Rattle.check_functions.specs.HeadsView.{heads_view}
use Rattle.check_functions.proofs.AtLaws.{seen_within, one_at}
use Rattle.check_functions.proofs.OwnLaws.{has_number}
use Rattle.check_functions.proofs.CallableLaws.{function_is}
use Rattle.check_functions.proofs.callables.function_at.Goals as goal

pub returns : goal.returns
returns c = λ group here.
    let at = seen_within group_view c.as_slice.ensures c.index-as_slice-place.is c.requires.within in
    let same = one_at (group_view c.index-as_slice-place.result) group (sym at ∙ here) in
    function_is (source_view c.args.source.now) (map heading_view c.args.source.now.headings)
    (heads_view c.args.heads.now) group c.in_ok-number.number c.args.place
    c.first-first.result (callable_view c.in_ok-it.it) c.in_ok-it.ensures c.in_ok-number.ensures
    (c.first-first.ensures (has_number (groups_view c.args.source.now.groups) c.args.place
    (group_view c.index-as_slice-place.result) at)
    ∙ ap (λ (g : Group). position (belongs c.args.source.now.tags c.args.source.now.fallback.now
    g.key) (map heading_view c.args.source.now.headings)) same)

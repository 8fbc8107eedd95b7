use Rattle.check_source.specs.GroupsView.{group_view}
use Rattle.check_source.specs.SourceView.{source_view}
use Rattle.check_declarations.proofs.PublishedLaws.{public_is, pushed}
use Rattle.check_declarations.proofs.published.add_public.Goals as goal

pub returns : goal.returns
returns c =
    pushed _ _ _ _ _ _ c.args.number
    (public_is (source_view c.args.source.now) c.args.marks.now.flags.items c.args.marks.now.entry
    (group_view c.args.group.now) c.args.number _ c.is_public-shown.result c.requires.marked
    c.requires.here c.in_ok-name.ensures c.is_public-shown.ensures)
    c.in_ok-name.ensures c.in_ok-push_if.ensures

use Rattle.std.proofs.Common.{sym}
use Rattle.check_source.specs.GroupsView.{group_view}
use Rattle.check_source.specs.SourceView.{source_view}
use Rattle.check_functions.specs.HeadsView.{heads_view}
use Rattle.check_functions.proofs.TellLaws.{group_known, group_other}
use Rattle.check_functions.proofs.heads.check_group.Goals as goal

pub returns-then-not-enters : goal.returns-then-not-enters
returns-then-not-enters c =
    group_other (source_view c.args.source.now) (heads_view c.args.heads.now) c.args.place
    (group_view c.args.group.now) _ (sym c.if-not-enters.ensures)

pub returns : goal.returns
returns c =
    group_known (source_view c.args.source.now) (heads_view c.args.heads.now) c.args.place
    (group_view c.args.group.now) c.first.result c.against.result
    (sym c.if-not-enters.ensures) c.requires.known c.first.ensures c.against.ensures

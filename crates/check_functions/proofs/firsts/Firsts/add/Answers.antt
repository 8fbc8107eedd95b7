use Rattle.check_source.specs.GroupsView.{groups_view}
use Rattle.check_source.specs.HeadingView.{heading_view}
use Rattle.check_functions.proofs.OwnLaws.{firsts_more}
use Rattle.check_functions.proofs.firsts.Firsts.add.Goals as goal

pub returns : goal.returns
returns c = λ before place h.
    firsts_more c.args.source.now.tags c.args.source.now.fallback.now
    (groups_view c.args.source.now.groups) before (heading_view c.args.it.now)
    c.args.self.now.own.items c.note.new.own.items c.args.self.now.entry c.note_entry-self.result
    c.own_number-number.result c.args.place c.enters_all.result
    h place c.own_number-number.ensures c.note.ensures c.enters_all.ensures
    c.note_entry-self.ensures

use Rattle.std.proofs.Common.{◌||◌, ap, ◌∙◌}
use Rattle.check_source.specs.GroupsView.{groups_view}
use Rattle.check_source.specs.HeadingView.{heading_view}
use Rattle.check_declarations.proofs.PublicMarkLaws.{marks_more}
use Rattle.check_declarations.proofs.public_marks.Marks.add.Goals as goal

pub returns : goal.returns
returns c = λ before h.
    marks_more c.args.source.now.tags c.args.source.now.fallback.now
    (groups_view c.args.source.now.groups)
    before (heading_view c.args.it.now) c.args.self.now.flags.items c.mark.new.flags.items
    c.args.self.now.entry c.either-self.result c.public_number-number.result h
    c.public_number-number.ensures
    c.mark.ensures (c.either-self.ensures ∙ ap (λ b. c.args.self.now.entry || b) c.says_all.ensures)

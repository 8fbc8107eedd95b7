use Rattle.std.proofs.Common.{ap, ◌∙◌, refl}
use Rattle.check_source.specs.Update.{updated}
use Rattle.check_source.specs.GroupsView.{group_with}
use Rattle.check_source.proofs.GroupLaws.{numbered_set, grown}
use Rattle.check_source.proofs.groups.Groups.add_body.Goals as goal

pub invariant_of-self : goal.invariant_of-self
invariant_of-self c =
    numbered_set c.self.inside.items.items c.args.number c.index_mut.result.now _
    c.self.inside.tables c.index_mut.ensures.value refl c.self.invariant

pub invariant_of-self-2 : goal.invariant_of-self-2
invariant_of-self-2 c =
    numbered_set c.self.inside.items.items c.args.number c.index_mut.result.now _
    c.self.inside.tables c.index_mut.ensures.value refl c.self.invariant

pub returns : goal.returns
returns c =
    grown c.self.inside.items.items c.args.number c.index_mut.result.now c.args.it.now
    c.push.new.self c.index_mut.ensures.value c.in_ok-push.ensures.ok
    ∙ ap (λ all. updated all c.args.number (group_with c.args.it.now)) c.self.view_is

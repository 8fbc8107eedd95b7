use Rattle.std.proofs.Common.{sym, ap, ◌∙◌, refl}
use Rattle.check_source.specs.AutomataView.{known_with}
use Rattle.check_source.specs.Update.{updated}
use Rattle.check_source.proofs.PlaceLaws.{map_set}
use Rattle.check_source.proofs.AutomataLaws.{name_of, gains}
use Rattle.check_source.proofs.automata.Automata.add_state.Goals as goal

pub invariant_of-self : goal.invariant_of-self
invariant_of-self c =
    c.self.invariant
    ∙ sym (map_set name_of c.self.inside.items.items c.args.number c.index_mut.result.now _
    c.index_mut.ensures.value refl)

pub invariant_of-self-2 : goal.invariant_of-self-2
invariant_of-self-2 c =
    c.self.invariant
    ∙ sym (map_set name_of c.self.inside.items.items c.args.number c.index_mut.result.now _
    c.index_mut.ensures.value refl)

pub returns : goal.returns
returns c =
    gains c.self.inside.items.items c.args.number c.index_mut.result.now c.args.state.now
    c.add.new.self c.index_mut.ensures.value c.in_ok-add.ensures.added
    ∙ ap (λ all. updated all c.args.number (known_with c.args.state.now)) c.self.view_is

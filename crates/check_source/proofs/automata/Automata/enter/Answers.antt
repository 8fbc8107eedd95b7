use Rattle.std.proofs.Common.{sym, ap, ◌∙◌, refl}
use Rattle.check_source.specs.AutomataView.{known_entered}
use Rattle.check_source.specs.Update.{updated}
use Rattle.check_source.proofs.PlaceLaws.{map_set}
use Rattle.check_source.proofs.AutomataLaws.{name_of, enters}
use Rattle.check_source.proofs.automata.Automata.enter.Goals as goal

pub invariant_of-self : goal.invariant_of-self
invariant_of-self c =
    c.self.invariant
    ∙ sym (map_set name_of c.self.inside.items.items c.args.number c.index_mut.result.now _
    c.index_mut.ensures.value refl)

pub returns : goal.returns
returns c =
    enters c.self.inside.items.items c.args.number c.index_mut.result.now c.args.function
    c.index_mut.ensures.value
    ∙ ap (λ all. updated all c.args.number (known_entered c.args.function)) c.self.view_is

use Rattle.std.proofs.Common.{ap, ◌∙◌, position}
use Rattle.std.specs.Str.{bytes_eq}
use Rattle.types_rules.specs.States.{automaton_named}
use Rattle.check_source.specs.AutomataView.{automata_view}
use Rattle.check_source.proofs.AutomataLaws.{numbered}
use Rattle.check_source.proofs.automata.Automata.number.Goals as goal

pub returns : goal.returns
returns c =
    c.place.ensures ∙ ap (position (bytes_eq c.args.name.now)) c.self.invariant
    ∙ numbered c.self.inside.items.items c.args.name.now
    ∙ ap (λ all. automaton_named (automata_view all) c.args.name.now) c.self.view_is

use Rattle.std.proofs.Common.{ap, ◌∙◌}
use Rattle.std.specs.Prelude.{unwrap_or}
use Rattle.types_rules.specs.States.{automaton_named}
use Rattle.check_source.specs.AutomataView.{automata_view}
use Rattle.check_declarations.proofs.routes.number_of.Goals as goal

pub returns-in-None : goal.returns-in-None
returns-in-None c =
    rw c.in-None.is (c.unwrap_or.ensures
    ∙ ap (λ o. unwrap_or o 0) (c.number.ensures
    ∙ ap (automaton_named (automata_view c.args.automata.now)) c.anonymous.ensures))

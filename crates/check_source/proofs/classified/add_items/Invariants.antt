use Rattle.std.proofs.Common.{◌≡◌, [], drop}
use Rattle.types_rules.specs.Automata.{with_items}
use Rattle.types_rules.specs.Clauses.{items_behind}
use Rattle.check_source.specs.AutomataView.{automata_view}
use Rattle.check_source.proofs.classified.add_items.Given as goal

abbrev pub invariant-loop-it : goal.invariant-loop-it
invariant-loop-it l =
    with_items (automata_view l.automata) (items_behind l.last (drop l.it-index l.states))
    ≡ with_items (automata_view l.initial.automata) (items_behind [] l.states)

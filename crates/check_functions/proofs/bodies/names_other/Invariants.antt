use Rattle.std.proofs.Common.{◌≡◌, [], not, drop}
use Rattle.std.specs.List.{list_any}
use Rattle.std.specs.Str.{bytes_eq}
use Rattle.types_rules.specs.Clauses.{Item, items_behind}
use Rattle.check_functions.proofs.bodies.names_other.Given as goal

abbrev pub invariant-loop-it : goal.invariant-loop-it
invariant-loop-it l =
    list_any (λ (it : Item). not (bytes_eq it.automaton l.first))
    (items_behind l.last (drop l.it-index l.states))
    ≡ list_any (λ (it : Item). not (bytes_eq it.automaton l.first)) (items_behind [] l.states)

use Rattle.std.proofs.Common.{◌≡◌, ◌++◌, map}
use Rattle.std.specs.Vec.Iter.{into_iter_items}
use Rattle.pawn_meaning.specs.View.{automaton_view}
use Rattle.check_source.specs.AutomataView.{known_view}
use Rattle.check_source.proofs.automata.Automata.into_list.Given as goal

abbrev pub invariant-loop-it : goal.invariant-loop-it
invariant-loop-it l =
    map automaton_view l.list ++ map known_view (into_iter_items l.it-iterator)
    ≡ map known_view l.fn.self

use Rattle.std.proofs.Common.{◌≡◌, ◌++◌, map, drop}
use Rattle.pawn_meaning.specs.View.{automaton_view}
use Rattle.check_source.specs.AutomataView.{automata_view}
use Rattle.check_declarations.proofs.automata.automata_of.Given as goal

abbrev pub invariant-loop-it : goal.invariant-loop-it
invariant-loop-it l =
    map automaton_view l.list ++ automata_view (drop l.it-index l.automata)
    ≡ automata_view l.automata

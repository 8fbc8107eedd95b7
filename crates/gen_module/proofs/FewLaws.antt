-- Automata whose states cells can number, as the definitions have them.
use Rattle.std.proofs.Common.{◌^◌, ◌<◌, List, [], ◌∷◌, length, map}
use Rattle.std.specs.Prelude.{All}
use Rattle.std.proofs.lemmas.List.Elements.{All-nil, All-cons}
use Rattle.pawn_meaning.specs.Program as plain
use Rattle.pawn_meaning.specs.View.{automaton_view}
use Rattle.pawn_meaning.specs.declared.program.Automaton.{Automaton}
use Rattle.gen_module.specs.Few.{AreFew}

pub all_few : (automata : List Automaton) → AreFew automata
    → All (λ (it : plain.Automaton). length it.states < 2 ^ 31) (map automaton_view automata)
all_few [] h = All-nil (λ (it : plain.Automaton). length it.states < 2 ^ 31)
all_few (automaton ∷ automata) h =
    All-cons (λ (it : plain.Automaton). length it.states < 2 ^ 31) (automaton_view automaton)
    (map automaton_view automata) h.0 (all_few automata h.1)

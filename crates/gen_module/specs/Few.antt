-- Automata whose states cells can number.
use Rattle.std.specs.Prelude.{◌^◌, ◌<◌, List, [], ◌∷◌, length}
use Rattle.pawn_meaning.specs.declared.program.Automaton.{Automaton}

-- a state's cell is one more than its number
abbrev pub AreFew : List Automaton → Type 0
AreFew [] = Unit {0}
AreFew (automaton ∷ automata) = (length automaton.states < 2 ^ 31) × AreFew automata

-- What the definitions see of the automata that code holds, and how one of them changes.
use Rattle.std.specs.Prelude.{ℕ, List, Option, map, option_map, slice_get}
use Rattle.pawn_base.specs.Among.{with_name}
use Rattle.pawn_meaning.specs.Program as plain
use Rattle.check_source.specs.declared.automata.KnownAutomaton.{KnownAutomaton}

-- an automaton
abbrev pub known_view : KnownAutomaton → plain.Automaton
known_view it = record { name = it.name; states = it.states; enter = it.enter }

-- all of them
abbrev pub automata_view : List KnownAutomaton → List plain.Automaton
automata_view all = map known_view all

-- the states of the automaton with a number
abbrev pub states_in : List KnownAutomaton → ℕ → Option (List (List ℕ))
states_in all number = option_map (λ (it : KnownAutomaton). it.states) (slice_get all number)

-- with a state more, where it isn't among its states
abbrev pub known_with : List ℕ → KnownAutomaton → KnownAutomaton
known_with state it = record it { states = with_name it.states state }

-- with this entry function
abbrev pub known_entered : Option ℕ → KnownAutomaton → KnownAutomaton
known_entered function it = record it { enter = function }

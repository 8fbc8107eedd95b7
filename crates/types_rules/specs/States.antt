-- The automaton and state that a `state` names (Language Guide, "Automata"): each is known by
-- standing in a classifier.
use Rattle.std.specs.Prelude.{ℕ, List, [], Option, None, Some, position, slice_get}
use Rattle.std.specs.Str.{bytes_eq}
use Rattle.pawn_tree.specs.declared.name.At.{At}
use Rattle.pawn_tree.specs.declared.name.Name as n
use Rattle.pawn_tree.specs.declared.name.StateName.{StateName}
use Rattle.pawn_meaning.specs.Program.{Automaton}
use Rattle.types_rules.specs.declared.fault.TheConstants.{UNKNOWN_AUTOMATON, UNKNOWN_STATE}
use Rattle.names_rules.specs.Verdict.{Verdict, Stands}
use Rattle.types_rules.specs.Rule.{broken}

-- the numbers of an automaton and of a state of it
pub record Reached : Type 0 where
  pub automaton : ℕ
  pub state : ℕ

-- the automaton with a name: the anonymous one has none
abbrev pub automaton_named : List Automaton → List ℕ → Option ℕ
automaton_named automata name = position (λ (it : Automaton). bytes_eq it.name name) automata

-- an automaton's state that was found there
abbrev pub state_in : At → ℕ → Option ℕ → Verdict Reached
state_in at automaton None = broken UNKNOWN_STATE at
state_in at automaton (Some state) = Stands (record { automaton = automaton; state = state })

-- a state of the automaton with a number
abbrev pub state_of : At → ℕ → Option Automaton → List ℕ → Verdict Reached
state_of at number None state = broken UNKNOWN_STATE at
state_of at number (Some automaton) state =
    state_in at number (position (bytes_eq state) automaton.states)

-- where no anonymous automaton is known, no state of it is
abbrev pub reached_in : At → ℕ → List Automaton → Option ℕ → List ℕ → Verdict Reached
reached_in at missing automata None state = broken missing at
reached_in at missing automata (Some number) state =
    state_of at number (slice_get automata number) state

-- the automaton that is named, else the one without a name
abbrev pub reached_by : List Automaton → At → Option n.Name → List ℕ → Verdict Reached
reached_by automata at None state =
    reached_in at UNKNOWN_STATE automata (automaton_named automata []) state
reached_by automata at (Some name) state =
    reached_in at UNKNOWN_AUTOMATON automata (automaton_named automata name.bytes) state

-- the state that a `state` statement changes to
abbrev pub reached : List Automaton → At → StateName → Verdict Reached
reached automata at name = reached_by automata at name.automaton name.state.bytes

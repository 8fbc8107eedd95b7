-- Which body serves which state (Language Guide, "State classifiers"), by the numbers of automata
-- and states.
use Rattle.std.specs.Prelude.{ℕ, List, map, Option, None, Some, position, slice_get, unwrap_or}
use Rattle.std.specs.Str.{bytes_eq}
use Rattle.pawn_states.specs.declared.clause.Clause.{Clause}
use Rattle.pawn_states.specs.declared.dispatch.Dispatch.{Dispatch}
use Rattle.pawn_states.specs.Dispatch.{dispatch_of}
use Rattle.pawn_meaning.specs.Program.{Automaton, Route}
use Rattle.types_rules.specs.States.{automaton_named}

-- the number of a state in an automaton
abbrev pub state_number : Option Automaton → List ℕ → ℕ
state_number None state = 0
state_number (Some it) state = unwrap_or (position (bytes_eq state) it.states) 0

module _ (automata : List Automaton) where
  -- the number of an automaton by its name
  abbrev pub number : List ℕ → ℕ
  number name = unwrap_or (automaton_named automata name) 0

  -- states by their numbers in the automaton, each with the body that serves it
  abbrev pub numbered : List ℕ → List (List ℕ × ℕ) → List (ℕ × ℕ)
  numbered name cases =
      map (λ case. (state_number (slice_get automata (number name)) case.0, case.1)) cases

  -- every name stands in a classifier, so each has a number
  abbrev pub route_of : Dispatch → Route
  route_of it =
      record {
        automaton = number it.automaton;
        cases = numbered it.automaton it.cases;
        fallback =
            it.fallback;
      }

  -- of the clauses of a function in order
  abbrev pub route : List Clause → Route
  route clauses = route_of (dispatch_of clauses)

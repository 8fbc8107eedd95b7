-- Which body of a classified function runs (Language Guide, "State classifiers").
use Rattle.std.specs.Prelude.{ℕ, ◌+◌, List, [], ◌∷◌, ◌++◌, Option, None, Some, map, position}
use Rattle.std.specs.Prelude.{unwrap_or, if◌then◌else◌}
use Rattle.std.specs.Map.{lookup}
use Rattle.std.specs.Option.{option_or, option_and_then}
use Rattle.std.specs.Str.{bytes_eq}
use Rattle.pawn_states.specs.Classifier.{is_fallback}
use Rattle.pawn_states.specs.declared.clause.Clause.{Clause}
use Rattle.pawn_states.specs.declared.dispatch.Dispatch.{Dispatch}

-- the automaton that clauses name, where one does
abbrev pub automaton_named : List Clause → Option (List ℕ)
automaton_named [] = None
automaton_named (clause ∷ more) =
    if is_fallback clause then automaton_named more else Some clause.automaton

-- each state with the number of its clause, the first clause having this number
abbrev pub cases_from : ℕ → List Clause → List (List ℕ × ℕ)
cases_from number [] = []
cases_from number (clause ∷ more) =
    map (λ state. (state, number)) clause.states ++ cases_from (number + 1) more

-- the dispatch of clauses: of the anonymous automaton, whose name is empty, where none is named
abbrev pub dispatch_of : List Clause → Dispatch
dispatch_of clauses = record {
  automaton = unwrap_or (automaton_named clauses) [];
  cases = cases_from 0 clauses;
  fallback = position is_fallback clauses;
}

-- the body of a state's first case
abbrev pub body_for : List (List ℕ × ℕ) → List ℕ → Option ℕ
body_for cases state = lookup (bytes_eq state) cases

-- the body that runs: that of the state which the automaton is in, else the fallback. With neither
-- the run ends with error 13
abbrev pub picked : Dispatch → Option (List ℕ) → Option ℕ
picked dispatch state =
    option_or (option_and_then (body_for dispatch.cases) state) dispatch.fallback

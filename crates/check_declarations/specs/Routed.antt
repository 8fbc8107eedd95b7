-- Cases by the numbers of their states, as code makes them.
use Rattle.std.specs.Prelude.{◌≡◌, ℕ, List, ◌++◌, map, drop, Option}
use Rattle.pawn_meaning.specs.Program.{Automaton}
use Rattle.pawn_states.specs.declared.clause.Clause.{Clause}
use Rattle.pawn_states.specs.Dispatch.{cases_from}
use Rattle.types_rules.specs.Routes.{state_number}

-- pairs as the definitions have them
abbrev pub pairs_view : List (ℕ × ℕ) → List (ℕ × ℕ)
pairs_view list = map (λ case. (case.0, case.1)) list

-- the states of a clause, each with its number
abbrev pub states_numbered : Option Automaton → ℕ → List (List ℕ) → List (ℕ × ℕ)
states_numbered automaton clause states =
    map (λ state. (state_number automaton state, clause)) states

-- cases by their states' numbers
abbrev pub cases_numbered : Option Automaton → List (List ℕ × ℕ) → List (ℕ × ℕ)
cases_numbered automaton cases =
    map (λ case. (state_number automaton case.0, case.1)) cases

-- the cases of so many clauses are made
pub record Cased (automaton : Option Automaton) (clauses : List Clause) (i : ℕ)
    (list : List (ℕ × ℕ)) : Type 0 where
  pub same : list ++ cases_numbered automaton (cases_from i (drop i clauses))
      ≡ cases_numbered automaton (cases_from 0 clauses)

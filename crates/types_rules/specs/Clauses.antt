-- The classifier of a body (Language Guide, "Automata", "State classifiers"): states, each of the
-- automaton that it names, else of that of the state before it, else of the anonymous one.
use Rattle.std.specs.Prelude.{ℕ, List, [], ◌∷◌, map, Bool, not, Option, None, Some}
use Rattle.std.specs.List.{list_any}
use Rattle.std.specs.Str.{bytes_eq}
use Rattle.pawn_tree.specs.declared.name.Name as n
use Rattle.pawn_tree.specs.declared.name.StateName.{StateName}
use Rattle.pawn_states.specs.declared.clause.Clause.{Clause}

-- an automaton and a state of it
pub record Item : Type 0 where
  pub automaton : List ℕ
  pub state : List ℕ

-- the automaton that is named, else the last one
abbrev pub named_or : List ℕ → Option n.Name → List ℕ
named_or last None = last
named_or last (Some name) = name.bytes

-- the items behind one of an automaton
abbrev pub items_behind : List ℕ → List StateName → List Item
items_behind last [] = []
items_behind last (it ∷ more) =
    record { automaton = named_or last it.automaton; state = it.state.bytes }
    ∷ items_behind (named_or last it.automaton) more

-- the states of a classifier, each with its automaton
abbrev pub items : List StateName → List Item
items states = items_behind [] states

-- the automaton of a classifier, by its first state
abbrev pub automaton_of : List Item → List ℕ
automaton_of [] = []
automaton_of (it ∷ more) = it.automaton

-- the clause of a classifier: one without items is the fallback
abbrev pub clause : List StateName → Clause
clause states = record {
  automaton = automaton_of (items states);
  states = map (λ (it : Item). it.state) (items states);
}

-- one classifier names several automata
abbrev pub is_mixed : List StateName → Bool
is_mixed states =
    let first : List ℕ = automaton_of (items states) in
    list_any (λ (it : Item). not (bytes_eq it.automaton first)) (items states)

-- The automata of a source and their states, each in the order in which they first stand in a
-- classifier (Language Guide, "Automata"). A fallback counts only where its function has no other
-- clause, and is then the anonymous automaton's.
use Rattle.std.specs.Prelude.{ℕ, List, [], ◌∷◌, Bool, true, false, if◌then◌else◌, Option, None}
use Rattle.std.specs.Prelude.{Some, find}
use Rattle.std.specs.List.{list_any}
use Rattle.std.specs.Str.{bytes_eq}
use Rattle.pawn_base.specs.Among.{with_name}
use Rattle.pawn_tree.specs.declared.name.StateName.{StateName}
use Rattle.pawn_meaning.specs.Program.{Automaton}
use Rattle.types_rules.specs.Clauses.{Item, items}
use Rattle.types_rules.specs.Keys.{Key, Enters, same_key}
use Rattle.types_rules.specs.Groups.{Written, Group, number_of, body_key}

-- a state of an automaton, or an automaton without one
abbrev pub with_state : List (List ℕ) → Option (List ℕ) → List (List ℕ)
with_state states None = states
with_state states (Some state) = with_name states state

-- with a state of an automaton, each unless it is there
abbrev pub with_item : List Automaton → List ℕ → Option (List ℕ) → List Automaton
with_item [] name state = record { name = name; states = with_state [] state; enter = None } ∷ []
with_item (it ∷ more) name state =
    if bytes_eq it.name name then record it { states = with_state it.states state } ∷ more
    else it ∷ with_item more name state

-- with the states that a classifier names
abbrev pub with_items : List Automaton → List Item → List Automaton
with_items automata [] = automata
with_items automata (it ∷ more) = with_items (with_item automata it.automaton (Some it.state)) more

-- ---- fallbacks

-- a classifier that names states
abbrev pub names_states : Option (List StateName) → Bool
names_states None = false
names_states (Some []) = false
names_states (Some (it ∷ more)) = true

-- some body of the function names states
abbrev pub names_some : Option Group → Bool
names_some None = false
names_some (Some group) = list_any (λ (it : Written). names_states it.function.states) group.bodies

module _ (names : List (List ℕ)) (fallback : List ℕ) (groups : List Group) where
  -- another clause of the function names states
  abbrev pub has_other : Key → Bool
  has_other key = names_some (find (λ (group : Group). same_key group.key key) groups)

  -- with the anonymous automaton, where a fallback is its function's only clause
  abbrev pub with_fallback : List Automaton → Written → List Automaton
  with_fallback automata it =
      if has_other (body_key names fallback it) then automata else with_item automata [] None

  -- with what the classifier of a body names
  abbrev pub with_classifier : List Automaton → Written → Option (List StateName) → List Automaton
  with_classifier automata it None = automata
  with_classifier automata it (Some []) = with_fallback automata it
  with_classifier automata it (Some (state ∷ more)) = with_items automata (items (state ∷ more))

  -- those of bodies in order, behind others
  unfoldable pub classified : List Automaton → List Written → List Automaton
  classified automata [] = automata
  classified automata (it ∷ more) = classified (with_classifier automata it it.function.states) more

-- ---- entry functions

-- each with the number of its entry function
unfoldable pub entered : List Group → List Automaton → List Automaton
entered groups [] = []
entered groups (it ∷ more) =
    record it { enter = number_of groups (Enters it.name) } ∷ entered groups more

-- all automata of a source, with their entry functions
abbrev pub automata : List (List ℕ) → List ℕ → List Group → List Written → List Automaton
automata names fallback groups bodies = entered groups (classified names fallback groups [] bodies)

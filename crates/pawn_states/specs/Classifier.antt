-- The classifiers of a function's bodies (Language Guide, "State classifiers"): each body has a
-- clause, which names states of an automaton, or names none and is the fallback.
use Rattle.std.specs.Prelude.{ℕ, List, [], ◌∷◌, ◌++◌, Bool, true, false, not, ◌&&◌, ◌||◌, Option}
use Rattle.std.specs.Prelude.{None, Some, filter, length, if◌then◌else◌}
use Rattle.std.specs.List.{list_any, flat_map}
use Rattle.std.specs.Option.{option_or}
use Rattle.std.specs.Str.{bytes_eq}
use Rattle.pawn_base.specs.Among.{is_among}
use Rattle.pawn_states.specs.declared.clause.Clause.{Clause}
use Rattle.pawn_states.specs.declared.fault.StateFault.{StateFault}
use Rattle.pawn_states.specs.declared.fault.StateFault.TheVariants.{Twice, FallbackTwice, Mixed}

-- no names
abbrev pub are_none : List (List ℕ) → Bool
are_none [] = true
are_none (name ∷ more) = false

-- the clause of `<>`, which names no state
abbrev pub is_fallback : Clause → Bool
is_fallback clause = are_none clause.states

-- the clauses that name states, and with them an automaton
abbrev pub naming : List Clause → List Clause
naming clauses = filter (λ clause. not (is_fallback clause)) clauses

-- the states that clauses name, in order
abbrev pub states_of : List Clause → List (List ℕ)
states_of clauses = flat_map (λ clause. clause.states) clauses

-- a name stands twice
abbrev pub has_twice : List (List ℕ) → Bool
has_twice [] = false
has_twice (name ∷ more) = is_among name more || has_twice more

-- a clause names another automaton than one before it
abbrev pub mixes : List Clause → Clause → Bool
mixes before clause =
    not (is_fallback clause)
    && list_any (λ other. not (bytes_eq other.automaton clause.automaton)) (naming before)

-- a clause is a fallback, as one before it
abbrev pub is_second_fallback : List Clause → Clause → Bool
is_second_fallback before clause = is_fallback clause && list_any is_fallback before

-- a clause names a state twice, or one that stands before
abbrev pub repeats : List Clause → Clause → Bool
repeats before clause = has_twice (states_of (before ++ clause ∷ []))

-- what a clause breaks, by itself or with those before it
abbrev pub fault_at : List Clause → Clause → Option StateFault
fault_at before clause =
    if mixes before clause then Some (Mixed (length before))
    else (if is_second_fallback before clause then Some (FallbackTwice (length before))
    else (if repeats before clause then Some (Twice (length before))
    else None))

-- what the first clause that breaks a rule breaks, in clauses behind others
abbrev pub first_fault : List Clause → List Clause → Option StateFault
first_fault before [] = None
first_fault before (clause ∷ more) =
    option_or (fault_at before clause) (first_fault (before ++ clause ∷ []) more)

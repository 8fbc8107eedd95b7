-- Clauses and their dispatch, computed.
use Rattle.std.specs.Prelude.{◌≡◌, ℕ, List, [], ◌∷◌, None, Some, Ok, Err, codes, refl}
use Rattle.pawn_states.specs.Classified.{classified}
use Rattle.pawn_states.specs.Dispatch.{dispatch_of, picked}
use Rattle.pawn_states.specs.declared.clause.Clause.{Clause}
use Rattle.pawn_states.specs.declared.fault.StateFault.TheVariants.{Twice, FallbackTwice, Mixed}

-- an automaton and one state, or none
abbrev of : List ℕ → List ℕ → Clause
of automaton state = record { automaton = automaton; states = state ∷ [] }

abbrev fallback : List ℕ → Clause
fallback automaton = record { automaton = automaton; states = [] }

abbrev m : List ℕ
m = codes "m"

abbrev n : List ℕ
n = codes "n"

abbrev a : List ℕ
a = codes "a"

abbrev b : List ℕ
b = codes "b"

abbrev three : List Clause
three = of m a ∷ of m b ∷ fallback n ∷ []

cases : classified three
    ≡ Ok (record { automaton = m; cases = (a, 0) ∷ (b, 1) ∷ []; fallback = Some 2 })
cases = refl

without_a_state : picked (dispatch_of three) None ≡ Some 2
without_a_state = refl

in_b : picked (dispatch_of three) (Some b) ≡ Some 1
in_b = refl

in_another : picked (dispatch_of three) (Some m) ≡ Some 2
in_another = refl

no_body : picked (dispatch_of (of m a ∷ [])) (Some b) ≡ None
no_body = refl

twice : classified (of m a ∷ of m a ∷ of n b ∷ []) ≡ Err (Twice 1)
twice = refl

twice_itself : classified (record { automaton = m; states = a ∷ b ∷ a ∷ [] } ∷ []) ≡ Err (Twice 0)
twice_itself = refl

mixed : classified (of m a ∷ of n a ∷ []) ≡ Err (Mixed 1)
mixed = refl

fallback_twice : classified (fallback m ∷ fallback n ∷ []) ≡ Err (FallbackTwice 1)
fallback_twice = refl

-- the anonymous automaton is the empty name
only_a_fallback : classified (fallback m ∷ [])
    ≡ Ok (record { automaton = []; cases = []; fallback = Some 0 })
only_a_fallback = refl

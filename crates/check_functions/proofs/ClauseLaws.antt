-- Classifiers and their clauses, as code finds them.
use Rattle.std.proofs.Common.{◌≡◌, ◌≤◌, ◌<◌, ◌+◌, ℕ, zero, suc, Bool, true, false, ◌||◌, not, List}
use Rattle.std.proofs.Common.{[], ◌∷◌, ◌++◌, map, length, get_or, Option, None, Some, refl, sym, ap}
use Rattle.std.proofs.Common.{ap₂, ◌∙◌, arith, append_assoc}
use Rattle.std.specs.Prelude.{slice_get, filter, filter_map, is_some}
use Rattle.std.specs.List.{list_any}
use Rattle.pawn_tree.specs.declared.name.At.{At}
use Rattle.pawn_tree.specs.declared.name.StateName.{StateName}
use Rattle.pawn_tree.specs.Declarations.{FunctionOf}
use Rattle.pawn_states.specs.declared.clause.Clause.{Clause}
use Rattle.pawn_states.specs.declared.fault.StateFault.{StateFault}
use Rattle.pawn_states.specs.declared.fault.StateFault.TheVariants.{Twice, FallbackTwice, Mixed}
use Rattle.pawn_states.specs.declared.fault.StateFault.TheVariants.{Memory}
use Rattle.names_rules.specs.Verdict.{Fault}
use Rattle.types_rules.specs.Keys.{Key}
use Rattle.types_rules.specs.Clauses.{Item, items, items_behind, automaton_of, named_or, clause}
use Rattle.types_rules.specs.Clauses.{is_mixed}
use Rattle.types_rules.specs.Groups.{Written, Group}
use Rattle.types_rules.specs.Headings.{is_enters}
use Rattle.types_rules.specs.Functions.{has_classifier, clause_of, at_body, clause_faults}
use Rattle.types_rules.specs.Functions.{bodies_faults, states_faults, has_mixed}
use Rattle.check_functions.specs.Bare.{bodies_by, states_by}
use Rattle.check_functions.specs.Clauses.{at_place, places_by}
use Rattle.check_functions.specs.Mixed.{mixes_by, any_mixed}

pub first_automaton : (states : List StateName) (first : StateName) → 1 ≤ length states
    → first ≡ get_or states 0 first
    → automaton_of (items states) ≡ named_or [] first.automaton
first_automaton [] first h is = absurd (omega (arith, h))
first_automaton (x ∷ more) first h is = ap (λ (s : StateName). named_or [] s.automaton) (sym is)

state_is : (last : List ℕ) (states : List StateName)
    → map (λ (it : StateName). it.state.bytes) states
    ≡ map (λ (it : Item). it.state) (items_behind last states)
state_is last [] = refl
state_is last (it ∷ more) =
    ap (λ (r : List (List ℕ)). it.state.bytes ∷ r) (state_is (named_or last it.automaton) more)

pub clause_is : (automaton : List ℕ) (list : List (List ℕ)) (states : List StateName)
    → automaton ≡ automaton_of (items states)
    → list ≡ map (λ (it : StateName). it.state.bytes) states
    → record { automaton = automaton; states = list } ≡ clause states
clause_is automaton list states a s =
    let all : list ≡ map (λ (it : Item). it.state) (items states) = s ∙ state_is [] states in
    λ j. record { automaton = a j; states = all j }

-- ---- the body that a fault names

place_at : (kind : ℕ) (bodies : List Written) (i : ℕ)
    → at_place kind (slice_get (map (λ (it : Written). it.at) bodies) i)
    ≡ at_body kind (slice_get bodies i)
place_at kind [] i = refl
place_at kind (it ∷ more) zero = refl
place_at kind (it ∷ more) (suc i) = place_at kind more i

pub places_are : (bodies : List Written) (found : Option StateFault)
    → places_by (map (λ (it : Written). it.at) bodies) found ≡ clause_faults bodies found
places_are bodies None = refl
places_are bodies (Some (Twice i)) = place_at _ bodies i
places_are bodies (Some (FallbackTwice i)) = place_at _ bodies i
places_are bodies (Some (Mixed i)) = place_at _ bodies i
places_are bodies (Some Memory) = refl

-- ---- bodies

or_three : (a b : Bool) → a || (b || false) ≡ a || b
or_three true b = refl
or_three false true = refl
or_three false false = refl

abbrev is_bare : Written → Bool
is_bare it = not (has_classifier it)

any_push : (xs : List Written) (it : Written)
    → list_any is_bare (xs ++ it ∷ []) ≡ list_any is_bare xs || is_bare it
any_push [] it = or_three false (is_bare it)
any_push (x ∷ xs) it =
    ap (λ (b : Bool). is_bare x || b) (any_push xs it)
    ∙ sym (or_assoc (is_bare x) (list_any is_bare xs) (is_bare it))
  where
    or_assoc : (a b c : Bool) → (a || b) || c ≡ a || (b || c)
    or_assoc true b c = refl
    or_assoc false b c = refl

states_are : (group : Group) (before : List Written) (it : Written)
    (states : Option (List StateName))
    → states_by (list_any has_classifier group.bodies || is_enters group.key)
    (list_any is_bare before) it states ≡ states_faults group before it states
states_are group before it None = refl
states_are group before it (Some states) = refl

pub bodies_are : (group : Group) (before bodies : List Written)
    → bodies_by (list_any has_classifier group.bodies || is_enters group.key)
    (list_any is_bare before) bodies ≡ bodies_faults group before bodies
bodies_are group before [] = refl
bodies_are group before (it ∷ more) =
    ap₂ (λ (xs ys : List Fault). xs ++ ys) (states_are group before it it.function.states)
    (ap (λ (b : Bool). bodies_by (list_any has_classifier group.bodies || is_enters group.key) b
    more) (sym (any_push before it))
    ∙ bodies_are group (before ++ it ∷ []) more)

-- ---- classifiers that name several automata

or_none : (a : Bool) → a || false ≡ a
or_none true = refl
or_none false = refl

one_mixed : (key : Key) (at : At) (f : FunctionOf) (states : Option (List StateName))
    → has_mixed (record {
      key = key;
      bodies =
          record { at = at; function = record f { states = states } } ∷ [];
    }) ≡ mixes_by states
one_mixed key at f None = refl
one_mixed key at f (Some states) = or_none (is_mixed states)

or_first : (a r : Bool) → a || r ≡ (a || false) || r
or_first true r = refl
or_first false r = refl

pub mixed_is : (key : Key) (bodies : List Written)
    → any_mixed bodies ≡ has_mixed (record { key = key; bodies = bodies })
mixed_is key [] = refl
mixed_is key (it ∷ more) =
    ap₂ (λ (a b : Bool). a || b) (sym (one_mixed key it.at it.function it.function.states))
    (mixed_is key more)
    ∙ sym (or_first _ (has_mixed (record { key = key; bodies = more })))

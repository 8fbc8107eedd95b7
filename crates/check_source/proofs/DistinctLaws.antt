-- None, one or several automata stand for the names of them.
use Rattle.std.proofs.Common.{◌≡◌, ◌≤◌, ℕ, Bool, true, false, ◌||◌, if◌then◌else◌, List, [], ◌∷◌}
use Rattle.std.proofs.Common.{◌++◌, length, get_or, Option, None, Some, refl, sym, ap, ◌∙◌, arith}
use Rattle.std.specs.Str.{bytes_eq}
use Rattle.pawn_base.specs.Among.{is_among, with_name}
use Rattle.pawn_tree.specs.declared.name.StateName.{StateName}
use Rattle.types_rules.specs.Clauses.{clause, named_or}
use Rattle.types_rules.specs.Groups.{Written, is_entry, with_automaton, with_entry}
use Rattle.types_rules.specs.Groups.{entry_automata, only_one}
use Rattle.check_source.specs.Distinct.{Distinct, Nothing, One, Several, distinct_of, with_distinct}
use Rattle.check_source.specs.Distinct.{states_distinct, bodies_distinct, only_of}

pub first_distinct : (before : Distinct) (states : List StateName) (first : StateName)
    → 1 ≤ length states → first ≡ get_or states 0 first
    → states_distinct before (Some states) ≡ with_distinct before (named_or [] first.automaton)
first_distinct before [] first h is = absurd (omega (arith, h))
first_distinct before (x ∷ more) first h is =
    ap (λ (s : StateName). with_distinct before (named_or [] s.automaton)) (sym is)

one_by : (b : Bool) (known name : List ℕ)
    → distinct_of (if b || false then known ∷ [] else known ∷ name ∷ [])
    ≡ (if b then One known else Several)
one_by true known name = refl
one_by false known name = refl

more_by : (b : Bool) (first second : List ℕ) (more : List (List ℕ)) (name : List ℕ)
    → distinct_of (if b then first ∷ second ∷ more else (first ∷ second ∷ more) ++ name ∷ [])
    ≡ Several
more_by true first second more name = refl
more_by false first second more name = refl

more_distinct : (names : List (List ℕ)) (name : List ℕ)
    → distinct_of (with_name names name) ≡ with_distinct (distinct_of names) name
more_distinct [] name = refl
more_distinct (known ∷ []) name = one_by (bytes_eq name known) known name
more_distinct (first ∷ second ∷ more) name =
    more_by (is_among name (first ∷ second ∷ more)) first second more name

automaton_distinct : (names : List (List ℕ)) (states : Option (List StateName))
    → distinct_of (with_automaton names states) ≡ states_distinct (distinct_of names) states
automaton_distinct names None = refl
automaton_distinct names (Some []) = refl
automaton_distinct names (Some (it ∷ more)) = more_distinct names (clause (it ∷ more)).automaton

entry_by : (b : Bool) (names : List (List ℕ)) (states : Option (List StateName))
    → distinct_of (if b then with_automaton names states else names)
    ≡ (if b then states_distinct (distinct_of names) states else distinct_of names)
entry_by true names states = automaton_distinct names states
entry_by false names states = refl

entries_distinct : (names : List (List ℕ)) (bodies : List Written)
    → distinct_of (entry_automata names bodies) ≡ bodies_distinct (distinct_of names) bodies
entries_distinct names [] = refl
entries_distinct names (it ∷ more) =
    entries_distinct (with_entry names it) more
    ∙ ap (λ (d : Distinct). bodies_distinct d more)
    (entry_by (is_entry it.function.head.name) names it.function.states)

only_is : (names : List (List ℕ)) → only_of (distinct_of names) ≡ only_one names
only_is [] = refl
only_is (name ∷ []) = refl
only_is (name ∷ second ∷ more) = refl

pub fallback_is : (bodies : List Written) (found : Distinct)
    → found ≡ bodies_distinct Nothing bodies
    → only_of found ≡ only_one (entry_automata [] bodies)
fallback_is bodies found h =
    ap only_of (h ∙ sym (entries_distinct [] bodies)) ∙ only_is (entry_automata [] bodies)

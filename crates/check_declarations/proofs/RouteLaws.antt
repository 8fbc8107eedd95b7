-- Routes, clause by clause.
use Rattle.std.proofs.Common.{◌≡◌, ◌+◌, ◌<◌, ◌≤◌, ℕ, true, false, List, [], ◌∷◌, ◌++◌, cond, map}
use Rattle.std.proofs.Common.{length, take, drop, get_or, refl, sym, ap, ◌∙◌, append_assoc}
use Rattle.std.proofs.Common.{append-nil}
use Rattle.std.specs.Prelude.{slice_get, position, unwrap_or, option_map, Option, Some, None}
use Rattle.std.specs.Option.{option_and_then}
use Rattle.std.specs.Str.{bytes_eq}
use Rattle.std.proofs.lemmas.List.{map-append, drop_all, drop_more, take_all, take_more}
use Rattle.std.proofs.lemmas.Option.{slice_get-map}
use Rattle.std.specs.List.{position_from}
use Rattle.std.proofs.lemmas.Iterator.Adapters.{position_from-zero}
use Rattle.pawn_states.specs.Classifier.{is_fallback}
use Rattle.pawn_states.specs.Dispatch.{automaton_named, cases_from}
use Rattle.pawn_states.specs.declared.clause.Clause.{Clause}
use Rattle.pawn_meaning.specs.Program.{Automaton}
use Rattle.types_rules.specs.Routes.{state_number}
use Rattle.check_source.specs.AutomataView.{known_view, automata_view, states_in}
use Rattle.check_source.specs.declared.automata.KnownAutomaton.{KnownAutomaton}
use Rattle.check_declarations.specs.Routed.{pairs_view, states_numbered, cases_numbered, Cased}

-- ---- numbers

state_by : (it : Option KnownAutomaton) (state : List ℕ)
    → unwrap_or (option_and_then (position (bytes_eq state))
    (option_map (λ (it : KnownAutomaton). it.states) it)) 0
    ≡ state_number (option_map known_view it) state
state_by None state = refl
state_by (Some it) state = refl

pub state_is : (all : List KnownAutomaton) (number : ℕ) (state : List ℕ)
    → unwrap_or (option_and_then (position (bytes_eq state)) (states_in all number)) 0
    ≡ state_number (slice_get (automata_view all) number) state
state_is all number state =
    state_by (slice_get all number) state
    ∙ ap (λ it. state_number it state) (sym (slice_get-map known_view all number))

-- ---- the automaton

pub named_more : (clauses : List Clause) (i : ℕ) (clause : Clause) → i < length clauses
    → clause ≡ get_or clauses i clause → is_fallback clause ≡ true
    → automaton_named (drop i clauses) ≡ automaton_named (drop (i + 1) clauses)
named_more clauses i clause lt e h =
    ap automaton_named (drop_more clauses i clause lt)
    ∙ ap (λ c. automaton_named (c ∷ drop (i + 1) clauses)) (sym e)
    ∙ ap (λ b. cond b (automaton_named (drop (i + 1) clauses)) (Some clause.automaton)) h

pub named_here : (clauses : List Clause) (i : ℕ) (clause : Clause) → i < length clauses
    → clause ≡ get_or clauses i clause → is_fallback clause ≡ false
    → automaton_named (drop i clauses) ≡ Some clause.automaton
named_here clauses i clause lt e h =
    ap automaton_named (drop_more clauses i clause lt)
    ∙ ap (λ c. automaton_named (c ∷ drop (i + 1) clauses)) (sym e)
    ∙ ap (λ b. cond b (automaton_named (drop (i + 1) clauses)) (Some clause.automaton)) h

pub named_none : (clauses : List Clause) (i : ℕ) → length clauses ≤ i
    → automaton_named (drop i clauses) ≡ None
named_none clauses i le = ap automaton_named (drop_all i clauses le)

-- ---- the cases

numbered_clause : (automaton : Option Automaton) (number : ℕ) (states : List (List ℕ))
    → cases_numbered automaton (map (λ state. (state, number)) states)
    ≡ states_numbered automaton number states
numbered_clause automaton number [] = refl
numbered_clause automaton number (s ∷ more) =
    ap (λ cs. (state_number automaton s, number) ∷ cs) (numbered_clause automaton number more)

pub cased_more : {automaton : Option Automaton} {clauses : List Clause} {i : ℕ}
    {list next : List (ℕ × ℕ)} (clause : Clause)
    → Cased automaton clauses i list → i < length clauses → clause ≡ get_or clauses i clause
    → next ≡ list ++ states_numbered automaton i clause.states
    → Cased automaton clauses (i + 1) next
cased_more {automaton} {clauses} {i} {list} {next} clause done lt e step =
    let rest : List (ℕ × ℕ) =
    cases_numbered automaton (cases_from (i + 1) (drop (i + 1) clauses)) in
    let both : cases_numbered automaton (cases_from i (clause ∷ drop (i + 1) clauses))
    ≡ states_numbered automaton i clause.states ++ rest =
    map-append (λ case. (state_number automaton case.0, case.1))
    (map (λ state. (state, i)) clause.states) (cases_from (i + 1) (drop (i + 1) clauses))
    ∙ ap (λ cs. cs ++ rest) (numbered_clause automaton i clause.states) in
    record {
      same =
          ap (λ cs. cs ++ rest) step ∙ append_assoc list
          (states_numbered automaton i clause.states) rest ∙ ap (λ cs. list ++ cs) (sym both)
          ∙ ap (λ c. list ++ cases_numbered automaton (cases_from i (c ∷ drop (i + 1) clauses))) e
          ∙ ap (λ cs. list ++ cases_numbered automaton (cases_from i cs))
          (sym (drop_more clauses i clause lt)) ∙ done.same;
    }

pub cased_all : {automaton : Option Automaton} {clauses : List Clause} {i : ℕ} {list : List (ℕ × ℕ)}
    → Cased automaton clauses i list → length clauses ≤ i
    → list ≡ cases_numbered automaton (cases_from 0 clauses)
cased_all {automaton} {clauses} {i} {list} done le =
    sym (append-nil list) ∙ ap (λ cs. list ++ cases_numbered automaton (cases_from i cs))
    (sym (drop_all i clauses le)) ∙ done.same

-- a state more
pub numbered_more : (automaton : Option Automaton) (clause : ℕ) (states : List (List ℕ))
    (i place : ℕ) (state : List ℕ) (old : List (ℕ × ℕ)) (list : List (ℕ × ℕ))
    → pairs_view list ≡ old ++ states_numbered automaton clause (take i states) → i < length states
    → state ≡ get_or states i state
    → place ≡ state_number automaton state
    → pairs_view (list ++ (place, clause) ∷ [])
    ≡ old ++ states_numbered automaton clause (take (i + 1) states)
numbered_more automaton clause states i place state old list done lt e is =
    map-append (λ case. (case.0, case.1)) list ((place, clause) ∷ [])
    ∙ ap (λ cs. cs ++ (place, clause) ∷ []) done
    ∙ append_assoc old (states_numbered automaton clause (take i states)) ((place, clause) ∷ [])
    ∙ ap (λ n. old ++ (states_numbered automaton clause (take i states) ++ (n, clause) ∷ [])) is
    ∙ ap (λ cs. old ++ cs) (sym (map-append (λ s. (state_number automaton s, clause))
    (take i states) (state ∷ [])))
    ∙ ap (λ s. old ++ states_numbered automaton clause (take i states ++ s ∷ [])) e
    ∙ ap (λ ss. old ++ states_numbered automaton clause ss) (sym (take_more states i state lt))

pub numbered_all : (automaton : Option Automaton) (clause : ℕ) (states : List (List ℕ)) (i : ℕ)
    (old now : List (ℕ × ℕ))
    → now ≡ old ++ states_numbered automaton clause (take i states) → length states ≤ i
    → now ≡ old ++ states_numbered automaton clause states
numbered_all automaton clause states i old now done le =
    done ∙ ap (λ ss. old ++ states_numbered automaton clause ss) (take_all i states le)

-- ---- the fallback

pub position_is : (clauses : List Clause)
    → position_from is_fallback 0 clauses ≡ position is_fallback clauses
position_is clauses = sym (position_from-zero is_fallback clauses)

-- Which body runs, where no clause breaks a rule: that of the clause which names the state, else
-- the fallback.
use Rattle.std.proofs.Common.{◌≡◌, ◌+◌, List, [], ◌∷◌, ◌++◌, ℕ, Bool, true, false, ◌||◌}
use Rattle.std.proofs.Common.{if◌then◌else◌, Option, None, Some, map, position, length, refl, sym}
use Rattle.std.proofs.Common.{ap, subst, ◌∙◌, append-nil, append_assoc, arith, true≢false}
use Rattle.std.specs.Map.{lookup}
use Rattle.std.specs.Option.{option_or}
use Rattle.std.specs.Str.{bytes_eq}
use Rattle.std.specs.Cmp.Lexicographic.{bytes_decides}
use Rattle.std.proofs.lemmas.Grind.{flat_map-append}
use Rattle.std.proofs.lemmas.List.Folds.{list_any-append}
use Rattle.pawn_base.specs.Among.{is_among}
use Rattle.pawn_states.specs.Classifier.{is_fallback, states_of, has_twice, fault_at, first_fault}
use Rattle.pawn_states.specs.Dispatch.{cases_from, dispatch_of, picked}
use Rattle.pawn_states.specs.declared.clause.Clause.{Clause}
use Rattle.pawn_states.specs.declared.fault.StateFault.{StateFault}
use Rattle.pawn_states.proofs.GrownLaws.{cases_joined}
use Rattle.pawn_states.proofs.KnownLaws.{BreakNone, none_break, grows}

no_first : (fault rest : Option StateFault) → option_or fault rest ≡ None
    → (fault ≡ None) × (rest ≡ None)
no_first None rest e = (refl, e)
no_first (Some fault) rest e = absurd (cc)

still_none : (before more : List Clause) → BreakNone before → first_fault before more ≡ None
    → BreakNone (before ++ more)
still_none before [] good none = subst BreakNone (sym (append-nil before)) good
still_none before (clause ∷ more) good none =
    let others = before ++ clause ∷ [] in
    let faults = no_first (fault_at before clause) (first_fault others more) none in
    subst BreakNone (append_assoc before (clause ∷ []) more)
    (still_none others more (grows before clause good faults.0) faults.1)

-- clauses without a fault name one automaton, and no state twice
pub break_none : (clauses : List Clause) → first_fault [] clauses ≡ None → BreakNone clauses
break_none clauses none = still_none [] clauses none_break none

lookup_joined : {K X : Type 0} (test : K → Bool) (xs ys : List (K × X))
    → lookup test (xs ++ ys) ≡ option_or (lookup test xs) (lookup test ys)
lookup_joined test [] ys = refl
lookup_joined test (x ∷ xs) ys = by (test x.0) refl (lookup_joined test xs ys)
  where
    by : (b : Bool) → test x.0 ≡ b
        → lookup test (xs ++ ys) ≡ option_or (lookup test xs) (lookup test ys)
        → lookup test ((x ∷ xs) ++ ys) ≡ option_or (lookup test (x ∷ xs)) (lookup test ys)
    by true e rest = rw e refl
    by false e rest = rw e rest

-- the cases of one clause
cases_of_one : (state : List ℕ) (number : ℕ) (states : List (List ℕ))
    → lookup (bytes_eq state) (map (λ it. (it, number)) states)
    ≡ (if is_among state states then Some number else None)
cases_of_one state number [] = refl
cases_of_one state number (first ∷ states) =
    by (bytes_eq state first) refl (cases_of_one state number states)
  where
    by : (b : Bool) → bytes_eq state first ≡ b
        → lookup (bytes_eq state) (map (λ it. (it, number)) states)
        ≡ (if is_among state states then Some number else None)
        → lookup (bytes_eq state) (map (λ it. (it, number)) (first ∷ states))
        ≡ (if is_among state (first ∷ states) then Some number else None)
    by true e rest = rw e refl
    by false e rest = rw e rest

no_case_of_one : (among : Bool) (number : ℕ) (rest : Option ℕ) → among ≡ false → rest ≡ None
    → option_or (if among then Some number else None) rest ≡ None
no_case_of_one true number rest e none = absurd (true≢false e)
no_case_of_one false number rest e none = none

neither : (a b : Bool) → (a || b) ≡ false → (a ≡ false) × (b ≡ false)
neither true b e = absurd (true≢false e)
neither false b e = (refl, e)

-- a state that no clause names has no case
no_case : (state : List ℕ) (number : ℕ) (clauses : List Clause)
    → is_among state (states_of clauses) ≡ false
    → lookup (bytes_eq state) (cases_from number clauses) ≡ None
no_case state number [] none = refl
no_case state number (clause ∷ more) none =
    let parts = neither (is_among state clause.states) (is_among state (states_of more))
    (sym (list_any-append (bytes_eq state) clause.states (states_of more)) ∙ none) in
    let rest = cases_from (number + 1) more in
    lookup_joined (bytes_eq state) (map (λ it. (it, number)) clause.states) rest
    ∙ ap (λ o. option_or o (lookup (bytes_eq state) rest)) (cases_of_one state number clause.states)
    ∙ no_case_of_one (is_among state clause.states) number (lookup (bytes_eq state) rest) parts.0
    (no_case state (number + 1) more parts.1)

or_true : (a b : Bool) → b ≡ true → (a || b) ≡ true
or_true true b e = refl
or_true false b e = e

-- where no name stands twice, one that stands behind doesn't stand before
apart : (names more : List (List ℕ)) (name : List ℕ) → has_twice (names ++ more) ≡ false
    → is_among name more ≡ true → is_among name names ≡ false
apart [] more name distinct among = refl
apart (first ∷ names) more name distinct among =
    let parts = neither (is_among first (names ++ more)) (has_twice (names ++ more)) distinct in
    by (bytes_eq name first) refl parts.0 (apart names more name parts.1 among)
  where
    by : (b : Bool) → bytes_eq name first ≡ b → is_among first (names ++ more) ≡ false
        → is_among name names ≡ false → is_among name (first ∷ names) ≡ false
    by true e new rest =
        let same = (bytes_decides name first).0 e in
        let again : is_among first (names ++ more) ≡ true =
        list_any-append (bytes_eq first) names more
        ∙ or_true (is_among first names) (is_among first more)
        (ap (λ it. is_among it more) (sym same) ∙ among) in
        absurd (true≢false (sym again ∙ new))
    by false e new rest = ap (λ b. b || is_among name names) e ∙ rest

-- a state's body is that of the clause which names it
pub served : (before : List Clause) (clause : Clause) (after : List Clause) (state : List ℕ)
    → first_fault [] (before ++ clause ∷ after) ≡ None → is_among state clause.states ≡ true
    → picked (dispatch_of (before ++ clause ∷ after)) (Some state) ≡ Some (length before)
served before clause after state none among =
    let number = length before in
    let test = bytes_eq state in
    let clauses = before ++ clause ∷ after in
    let split : states_of clauses ≡ states_of before ++ states_of (clause ∷ after) =
    flat_map-append (λ it. it.states) before (clause ∷ after) in
    let behind : is_among state (states_of (clause ∷ after)) ≡ true =
    list_any-append test clause.states (states_of after)
    ∙ ap (λ b. b || is_among state (states_of after)) among in
    let new = apart (states_of before) (states_of (clause ∷ after)) state
    (sym (ap has_twice split) ∙ (break_none clauses none).distinct) behind in
    let found : lookup test (cases_from 0 clauses) ≡ Some number =
    ap (lookup test) (cases_joined 0 number before (clause ∷ after) (omega arith))
    ∙ lookup_joined test (cases_from 0 before) (cases_from number (clause ∷ after))
    ∙ ap (λ o. option_or o (lookup test (cases_from number (clause ∷ after))))
    (no_case state 0 before new)
    ∙ lookup_joined test (map (λ it. (it, number)) clause.states) (cases_from (number + 1) after)
    ∙ ap (λ o. option_or o (lookup test (cases_from (number + 1) after)))
    (cases_of_one state number clause.states ∙ ap (λ b. if b then Some number else None) among) in
    ap (λ o. option_or o (position is_fallback clauses)) found

-- and in a state that no clause names, as before the first state, the fallback runs
pub falls_back : (clauses : List Clause) (state : List ℕ)
    → is_among state (states_of clauses) ≡ false
    → picked (dispatch_of clauses) (Some state) ≡ position is_fallback clauses
falls_back clauses state none =
    ap (λ o. option_or o (position is_fallback clauses)) (no_case state 0 clauses none)

pub begins_in_fallback : (clauses : List Clause)
    → picked (dispatch_of clauses) None ≡ position is_fallback clauses
begins_in_fallback clauses = refl

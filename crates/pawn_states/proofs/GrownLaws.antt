-- What clauses name, as they grow by one clause.
use Rattle.std.proofs.Common.{◌≡◌, ◌+◌, ◌≤◌, List, [], ◌∷◌, ◌++◌, ℕ, suc, Bool, true, false, cond}
use Rattle.std.proofs.Common.{nat_lt, if◌then◌else◌, None, Some, is_some, map, position, length}
use Rattle.std.proofs.Common.{refl, sym, ap, ◌∙◌, append-nil, append_assoc, arith, length-append}
use Rattle.std.specs.List.{list_any, position_or_len}
use Rattle.std.specs.Option.{option_or}
use Rattle.std.proofs.lemmas.Bool.Decides.{nat_tests}
use Rattle.std.proofs.lemmas.Grind.{flat_map-append}
use Rattle.std.proofs.lemmas.List.Folds.{position_or_len_push}
use Rattle.pawn_states.specs.Classifier.{is_fallback, states_of}
use Rattle.pawn_states.specs.Dispatch.{automaton_named, cases_from}
use Rattle.pawn_states.specs.declared.clause.Clause.{Clause}

one_further : (k n : ℕ) → nat_lt (1 + k) (suc n) ≡ nat_lt k n
one_further k n = grind (arith, nat_tests)

module _ {X : Type 0} (p : X → Bool) where
  bounded : (xs : List X) → position_or_len p xs ≤ length xs
  bounded [] = omega arith
  bounded (x ∷ xs) = by (p x) refl (bounded xs)
    where
      by : (b : Bool) → p x ≡ b → position_or_len p xs ≤ length xs
          → position_or_len p (x ∷ xs) ≤ length (x ∷ xs)
      by true e rest = rw e (omega arith)
      by false e rest = rw e (omega arith)

  placed : (xs : List X) → nat_lt (position_or_len p xs) (length xs) ≡ list_any p xs
  placed [] = refl
  placed (x ∷ xs) = by (p x) refl (placed xs)
    where
      by : (b : Bool) → p x ≡ b → nat_lt (position_or_len p xs) (length xs) ≡ list_any p xs
          → nat_lt (position_or_len p (x ∷ xs)) (length (x ∷ xs)) ≡ list_any p (x ∷ xs)
      by true e rest = rw e (grind (arith, nat_tests))
      by false e rest = rw e (one_further (position_or_len p xs) (length xs) ∙ rest)

  given : (t : Bool) (k : ℕ) → is_some (cond t (Some k) None) ≡ t
  given true k = refl
  given false k = refl

  -- there is a first place exactly where one passes
  pub place_among : (xs : List X) → is_some (position p xs) ≡ list_any p xs
  place_among xs =
      given (nat_lt (position_or_len p xs) (length xs)) (position_or_len p xs) ∙ placed xs

  pub place_more : (xs : List X) (x : X)
      → position p (xs ++ x ∷ [])
      ≡ option_or (position p xs) (if p x then Some (length xs) else None)
  place_more xs x =
      let within = bounded xs in
      let more = position_or_len_push p xs x in
      let longer = length-append xs (x ∷ []) in
      grind (arith, nat_tests, within, more, longer)

pub automaton_more : (before : List Clause) (clause : Clause)
    → automaton_named (before ++ clause ∷ [])
    ≡ option_or (automaton_named before) (automaton_named (clause ∷ []))
automaton_more [] clause = refl
automaton_more (first ∷ before) clause = by (is_fallback first) refl (automaton_more before clause)
  where
    by : (b : Bool) → is_fallback first ≡ b
        → automaton_named (before ++ clause ∷ [])
        ≡ option_or (automaton_named before) (automaton_named (clause ∷ []))
        → automaton_named ((first ∷ before) ++ clause ∷ [])
        ≡ option_or (automaton_named (first ∷ before)) (automaton_named (clause ∷ []))
    by true e rest = rw e rest
    by false e rest = rw e refl

pub states_more : (before : List Clause) (clause : Clause)
    → states_of (before ++ clause ∷ []) ≡ states_of before ++ clause.states
states_more before clause =
    flat_map-append (λ it. it.states) before (clause ∷ [])
    ∙ ap (λ more. states_of before ++ more) (append-nil clause.states)

pub cases_joined : (number last : ℕ) (before more : List Clause) → last ≡ number + length before
    → cases_from number (before ++ more) ≡ cases_from number before ++ cases_from last more
cases_joined number last [] more e =
    let here : number ≡ last = omega (arith, e) in
    ap (λ n. cases_from n more) here
cases_joined number last (first ∷ before) more e =
    ap (λ rest. map (λ state. (state, number)) first.states ++ rest)
    (cases_joined (number + 1) last before more (omega (arith, e)))
    ∙ sym (append_assoc (map (λ state. (state, number)) first.states)
    (cases_from (number + 1) before) (cases_from last more))

pub cases_more : (number last : ℕ) (before : List Clause) (clause : Clause)
    → last ≡ number + length before
    → cases_from number (before ++ clause ∷ [])
    ≡ cases_from number before ++ map (λ state. (state, last)) clause.states
cases_more number last before clause e =
    cases_joined number last before (clause ∷ []) e
    ∙ ap (λ rest. cases_from number before ++ rest)
    (append-nil (map (λ state. (state, last)) clause.states))

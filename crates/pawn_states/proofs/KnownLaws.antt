-- What is known of clauses that break no rule, and their first fault.
use Rattle.std.proofs.Common.{◌≡◌, ◌+◌, List, [], ◌∷◌, ◌++◌, ℕ, Bool, true, false, not, ◌||◌}
use Rattle.std.proofs.Common.{if◌then◌else◌, Option, None, Some, is_some, map, position, length}
use Rattle.std.proofs.Common.{Result, Ok, Err, refl, sym, ap, ap₂, ◌∙◌, append-nil, append_assoc}
use Rattle.std.proofs.Common.{arith, length-append, ◌&&◌, true≢false}
use Rattle.std.specs.List.{list_any}
use Rattle.std.specs.Option.{option_or}
use Rattle.std.specs.Str.{bytes_eq}
use Rattle.std.specs.Cmp.Lexicographic.{bytes_decides}
use Rattle.std.proofs.lemmas.List.Elements.{filter-append}
use Rattle.std.proofs.lemmas.List.Folds.{list_any-append}
use Rattle.pawn_base.specs.Among.{is_among}
use Rattle.pawn_states.specs.Classified.{classified, unless_fault}
use Rattle.pawn_states.specs.Classifier.{is_fallback, naming, states_of, has_twice, fault_at}
use Rattle.pawn_states.specs.Classifier.{first_fault, mixes, is_second_fallback, repeats, are_none}
use Rattle.pawn_states.specs.Dispatch.{automaton_named, cases_from, dispatch_of}
use Rattle.pawn_states.specs.Known.{nothing, then_known, beside_automaton, with_states, with_clause}
use Rattle.pawn_states.specs.Known.{with_clauses, dispatch_from}
use Rattle.pawn_states.specs.declared.classifier.Known.{Known}
use Rattle.pawn_states.specs.declared.clause.Clause.{Clause}
use Rattle.pawn_states.specs.declared.fault.StateFault.{StateFault}
use Rattle.pawn_states.specs.declared.fault.StateFault.TheVariants.{Twice, FallbackTwice, Mixed}
use Rattle.pawn_states.proofs.GrownLaws.{place_among, place_more, automaton_more, states_more}
use Rattle.pawn_states.proofs.GrownLaws.{cases_more}
use Rattle.pawn_states.proofs.TwiceLaws.{repeated, repeated_is}

-- what is known of clauses that break no rule
abbrev pub known_of : List Clause → Known
known_of clauses = record {
  automaton = automaton_named clauses;
  states = states_of clauses;
  cases = cases_from 0 clauses;
  fallback = position is_fallback clauses;
}

-- another automaton than the one that is named, where one is
abbrev pub differs : Option (List ℕ) → List ℕ → Bool
differs None automaton = false
differs (Some named) automaton = not (bytes_eq named automaton)

-- clauses that break no rule: each that names an automaton names one, and no state stands twice
pub record BreakNone (clauses : List Clause) : Type 0 where
  pub agree : (automaton : List ℕ)
      → list_any (λ other. not (bytes_eq other.automaton automaton)) (naming clauses)
      ≡ differs (automaton_named clauses) automaton
  pub distinct : has_twice (states_of clauses) ≡ false

pub none_break : BreakNone []
none_break = record { agree = λ automaton. refl; distinct = refl }

-- what is known with the states of one more clause
abbrev grown : Known → List (List ℕ) → ℕ → Known
grown known states number = record known {
  states = known.states ++ states;
  cases = known.cases ++ map (λ state. (state, number)) states;
}

grown_twice : (known : Known) (state : List ℕ) (more : List (List ℕ)) (number : ℕ)
    → grown (grown known (state ∷ []) number) more number ≡ grown known (state ∷ more) number
grown_twice known state more number = λ j. record known {
  states = append_assoc known.states (state ∷ []) more j;
  cases = append_assoc known.cases ((state, number) ∷ []) (map (λ it. (it, number)) more) j;
}

pub with_states_is : (known : Known) (states : List (List ℕ)) (number : ℕ)
    → with_states known states number
    ≡ unless_fault (if repeated known.states states then Some (Twice number) else None)
    (grown known states number)
with_states_is known [] number = λ j. Ok (record known {
  states = sym (append-nil known.states) j;
  cases = sym (append-nil known.cases) j;
})
with_states_is known (state ∷ more) number =
    by (is_among state known.states) refl
    (with_states_is (grown known (state ∷ []) number) more number)
  where
    next : Known
    next = grown known (state ∷ []) number

    left : Bool → Result Known StateFault
    left among = then_known (if among then Err (Twice number) else Ok next)
        (λ known. with_states known more number)

    right : Bool → Result Known StateFault
    right among = unless_fault
        (if (if among then true else repeated next.states more) then Some (Twice number) else None)
        (grown known (state ∷ more) number)

    by : (b : Bool) → is_among state known.states ≡ b
        → with_states next more number
        ≡ unless_fault (if repeated next.states more then Some (Twice number) else None)
        (grown next more number)
        → left (is_among state known.states) ≡ right (is_among state known.states)
    by true e rest = ap left e ∙ sym (ap right e)
    by false e rest =
        ap left e ∙ rest
        ∙ ap (unless_fault (if repeated next.states more then Some (Twice number) else None))
        (grown_twice known state more number)
        ∙ sym (ap right e)

-- ---- one more clause

abbrev clause_of : List ℕ → List (List ℕ) → Clause
clause_of automaton states = record { automaton = automaton; states = states }

known_more : (before : List Clause) (clause : Clause)
    → known_of (before ++ clause ∷ []) ≡ record {
      automaton = option_or (automaton_named before) (automaton_named (clause ∷ []));
      states = states_of before ++ clause.states;
      cases = cases_from 0 before ++ map (λ state. (state, length before)) clause.states;
      fallback = option_or (position is_fallback before)
          (if is_fallback clause then Some (length before) else None);
    }
known_more before clause = λ j. record {
  automaton = automaton_more before clause j;
  states = states_more before clause j;
  cases = cases_more 0 (length before) before clause (omega arith) j;
  fallback = place_more is_fallback before clause j;
}

abbrev judged : Bool → Bool → Bool → ℕ → Option StateFault
judged mixed second twice number =
    if mixed then Some (Mixed number)
    else (if second then Some (FallbackTwice number)
    else (if twice then Some (Twice number) else None))

or_none : {A : Type 0} (o : Option A) → option_or o None ≡ o
or_none None = refl
or_none (Some x) = refl

or_that : {A : Type 0} (o : Option A) (x : A) → is_some o ≡ false → option_or o (Some x) ≡ Some x
or_that None x h = refl
or_that (Some y) x h = absurd (true≢false h)

fallback_step : (before : List Clause) (automaton : List ℕ) → BreakNone before
    → with_clause (known_of before) (clause_of automaton []) (length before)
    ≡ unless_fault (fault_at before (clause_of automaton []))
    (known_of (before ++ clause_of automaton [] ∷ []))
fallback_step before automaton good = by (list_any is_fallback before) refl
  where
    clause : Clause
    clause = clause_of automaton []

    number : ℕ
    number = length before

    second : is_some (position is_fallback before) ≡ list_any is_fallback before
    second = place_among is_fallback before

    left : Bool → Result Known StateFault
    left twice = if twice then Err (FallbackTwice number)
        else Ok (record (known_of before) { fallback = Some number })

    right : Bool → Bool → Result Known StateFault
    right twice repeated =
        unless_fault (judged false twice repeated number) (known_of (before ++ clause ∷ []))

    none_twice : repeats before clause ≡ false
    none_twice =
        ap has_twice (states_more before clause ∙ append-nil (states_of before)) ∙ good.distinct

    whole : is_some (position is_fallback before) ≡ false
        → known_of (before ++ clause ∷ []) ≡ record (known_of before) { fallback = Some number }
    whole first = known_more before clause ∙ (λ j. record {
      automaton = or_none (automaton_named before) j;
      states = append-nil (states_of before) j;
      cases = append-nil (cases_from 0 before) j;
      fallback = or_that (position is_fallback before) number first j;
    })

    by : (b : Bool) → list_any is_fallback before ≡ b
        → left (is_some (position is_fallback before))
        ≡ right (list_any is_fallback before) (repeats before clause)
    by true e = ap left (second ∙ e) ∙ sym (ap (λ b. right b (repeats before clause)) e)
    by false e =
        ap left (second ∙ e) ∙ ap Ok (sym (whole (second ∙ e)))
        ∙ sym (ap₂ (λ b twice. right b twice) e none_twice)

then_states : (before : List Clause) (clause : Clause) (known : Known) → BreakNone before
    → known.states ≡ states_of before
    → known_of (before ++ clause ∷ []) ≡ grown known clause.states (length before)
    → with_states known clause.states (length before)
    ≡ unless_fault (judged false false (repeats before clause) (length before))
    (known_of (before ++ clause ∷ []))
then_states before clause known good same whole =
    with_states_is known clause.states (length before)
    ∙ ap₂ (λ b k. unless_fault (if b then Some (Twice (length before)) else None) k)
    (ap (λ seen. repeated seen clause.states) same
    ∙ repeated_is (states_of before) clause.states good.distinct
    ∙ sym (ap has_twice (states_more before clause)))
    (sym whole)

naming_step : (before : List Clause) (automaton : List ℕ) (state : List ℕ) (more : List (List ℕ))
    → BreakNone before
    → with_clause (known_of before) (clause_of automaton (state ∷ more)) (length before)
    ≡ unless_fault (fault_at before (clause_of automaton (state ∷ more)))
    (known_of (before ++ clause_of automaton (state ∷ more) ∷ []))
naming_step before automaton state more good = by (automaton_named before) refl
  where
    clause : Clause
    clause = clause_of automaton (state ∷ more)

    number : ℕ
    number = length before

    left : Option (List ℕ) → Result Known StateFault
    left named = then_known (beside_automaton named (known_of before) automaton number)
        (λ next. with_states next clause.states number)

    right : Bool → Result Known StateFault
    right mixed = unless_fault (judged mixed false (repeats before clause) number)
        (known_of (before ++ clause ∷ []))

    whole : (named : Option (List ℕ)) → option_or (automaton_named before) (Some automaton) ≡ named
        → known_of (before ++ clause ∷ [])
        ≡ grown (record (known_of before) { automaton = named }) clause.states number
    whole named e = known_more before clause ∙ (λ j. record {
      automaton = e j;
      states = states_of before ++ clause.states;
      cases = cases_from 0 before ++ map (λ it. (it, number)) clause.states;
      fallback = or_none (position is_fallback before) j;
    })

    beside : (named : List ℕ) → automaton_named before ≡ Some named
        → (b : Bool) → bytes_eq named automaton ≡ b
        → left (Some named) ≡ right (not (bytes_eq named automaton))
    beside named e true same =
        ap (λ b. then_known (if b then Ok (known_of before) else Err (Mixed number))
        (λ next. with_states next clause.states number)) same
        ∙ then_states before clause (known_of before) good refl
        (whole (automaton_named before) (ap (λ o. option_or o (Some automaton)) e ∙ sym e))
        ∙ sym (ap (λ b. right (not b)) same)
    beside named e false same =
        ap (λ b. then_known (if b then Ok (known_of before) else Err (Mixed number))
        (λ next. with_states next clause.states number)) same
        ∙ sym (ap (λ b. right (not b)) same)

    by : (o : Option (List ℕ)) → automaton_named before ≡ o
        → left (automaton_named before)
        ≡ right (list_any (λ other. not (bytes_eq other.automaton automaton)) (naming before))
    by None e =
        ap left e
        ∙ then_states before clause (record (known_of before) { automaton = Some automaton })
        good refl (whole (Some automaton) (ap (λ o. option_or o (Some automaton)) e))
        ∙ sym (ap right (good.agree automaton ∙ ap (λ o. differs o automaton) e))
    by (Some named) e =
        ap left e ∙ beside named e (bytes_eq named automaton) refl
        ∙ sym (ap right (good.agree automaton ∙ ap (λ o. differs o automaton) e))

step : (before : List Clause) (automaton : List ℕ) (states : List (List ℕ)) → BreakNone before
    → with_clause (known_of before) (clause_of automaton states) (length before)
    ≡ unless_fault (fault_at before (clause_of automaton states))
    (known_of (before ++ clause_of automaton states ∷ []))
step before automaton [] good = fallback_step before automaton good
step before automaton (state ∷ states) good = naming_step before automaton state states good

-- ---- a clause that breaks no rule

no_fault : (mixed second twice : Bool) (number : ℕ) → judged mixed second twice number ≡ None
    → (mixed ≡ false) × (twice ≡ false)
no_fault true second twice number none = absurd (cc)
no_fault false true twice number none = absurd (cc)
no_fault false false true number none = absurd (cc)
no_fault false false false number none = (refl, refl)

or_false : (b : Bool) → (b || false) ≡ b
or_false true = refl
or_false false = refl

doubled : (b : Bool) → (b || (b || false)) ≡ b
doubled true = refl
doubled false = refl

not_apart : (b : Bool) → not b ≡ false → b ≡ true
not_apart true h = refl
not_apart false h = absurd (true≢false h)

joined : (named : Option (List ℕ)) (automaton : List ℕ) (states : List (List ℕ)) (other : List ℕ)
    → (are_none states ≡ false → differs named automaton ≡ false)
    → (differs named other
    || list_any (λ it. not (bytes_eq it.automaton other))
    (naming (clause_of automaton states ∷ [])))
    ≡ differs (option_or named (automaton_named (clause_of automaton states ∷ []))) other
joined None automaton [] other apart = refl
joined (Some named) automaton [] other apart = or_false (not (bytes_eq named other))
joined None automaton (state ∷ more) other apart = or_false (not (bytes_eq automaton other))
joined (Some named) automaton (state ∷ more) other apart =
    let alike = not_apart (bytes_eq named automaton) (apart refl) in
    let same = (bytes_decides named automaton).0 alike in
    ap (λ z. not (bytes_eq named other) || (not (bytes_eq z other) || false)) (sym same)
    ∙ doubled (not (bytes_eq named other))

pub grows : (before : List Clause) (clause : Clause) → BreakNone before
    → fault_at before clause ≡ None
    → BreakNone (before ++ clause ∷ [])
grows before clause good none =
    let judgement = no_fault (mixes before clause) (is_second_fallback before clause)
    (repeats before clause) (length before) none in
    let others = λ (name : List ℕ) (clauses : List Clause).
    list_any (λ it. not (bytes_eq it.automaton name)) (naming clauses) in
    let apart : are_none clause.states ≡ false
    → differs (automaton_named before) clause.automaton ≡ false =
    λ naming_it. sym (good.agree clause.automaton)
    ∙ sym (ap (λ b. not b && others clause.automaton before) naming_it) ∙ judgement.0 in
    record {
      agree = λ other.
          ap (list_any (λ it. not (bytes_eq it.automaton other)))
          (filter-append (λ it. not (is_fallback it)) before (clause ∷ []))
          ∙ list_any-append (λ it. not (bytes_eq it.automaton other)) (naming before)
          (naming (clause ∷ []))
          ∙ ap (λ b. b || others other (clause ∷ [])) (good.agree other)
          ∙ joined (automaton_named before) clause.automaton clause.states other apart
          ∙ ap (λ o. differs o other) (sym (automaton_more before clause));
      distinct = judgement.1;
    }

-- ---- all clauses

walk : (before more : List Clause) → BreakNone before
    → with_clauses (known_of before) more (length before)
    ≡ unless_fault (first_fault before more) (known_of (before ++ more))
walk before [] good = ap (λ clauses. Ok (known_of clauses)) (sym (append-nil before))
walk before (clause ∷ more) good =
    by (fault_at before clause) refl
    (λ none. walk (before ++ clause ∷ []) more (grows before clause good none))
  where
    next : List Clause
    next = before ++ clause ∷ []

    rest_of : Option StateFault → List Clause → Result Known StateFault
    rest_of fault clauses =
        unless_fault (option_or fault (first_fault next more)) (known_of clauses)

    left : Result Known StateFault → Result Known StateFault
    left next = then_known next (λ known. with_clauses known more (length before + 1))

    longer : length before + 1 ≡ length next
    longer = sym (length-append before (clause ∷ []))

    by : (o : Option StateFault) → fault_at before clause ≡ o
        → (fault_at before clause ≡ None → with_clauses (known_of next) more (length next)
        ≡ unless_fault (first_fault next more) (known_of (next ++ more)))
        → left (with_clause (known_of before) clause (length before))
        ≡ rest_of (fault_at before clause) (before ++ clause ∷ more)
    by None e rest =
        ap left (step before clause.automaton clause.states good
        ∙ ap (λ o. unless_fault o (known_of next)) e)
        ∙ ap (with_clauses (known_of next) more) longer
        ∙ rest e
        ∙ ap₂ rest_of (sym e) (append_assoc before (clause ∷ []) more)
    by (Some fault) e rest =
        ap left (step before clause.automaton clause.states good
        ∙ ap (λ o. unless_fault o (known_of next)) e)
        ∙ ap (λ o. rest_of o (before ++ clause ∷ more)) (sym e)

dispatched : (fault : Option StateFault) (clauses : List Clause) (known : Known)
    → unless_fault fault (known_of clauses) ≡ Ok known
    → unless_fault fault (dispatch_of clauses) ≡ Ok (dispatch_from known)
dispatched None clauses known e =
    let same : known_of clauses ≡ known = cc in
    ap (λ it. Ok (dispatch_from it)) same
dispatched (Some fault) clauses known e = absurd (cc)

refused : {A B : Type 0} (fault : Option StateFault) (a : A) (b : B) (wanted : StateFault)
    → unless_fault fault a ≡ Err wanted → unless_fault fault b ≡ Err wanted
refused None a b wanted e = absurd (cc)
refused (Some fault) a b wanted e =
    let same : fault ≡ wanted = cc in
    ap Err same

pub classified_is : (clauses : List Clause) (known : Known)
    → with_clauses nothing clauses 0 ≡ Ok known
    → classified clauses ≡ Ok (dispatch_from known)
classified_is clauses known e =
    dispatched (first_fault [] clauses) clauses known (sym (walk [] clauses none_break) ∙ e)

pub fault_is : (clauses : List Clause) (fault : StateFault)
    → with_clauses nothing clauses 0 ≡ Err fault
    → classified clauses ≡ Err fault
fault_is clauses fault e =
    refused (first_fault [] clauses) (known_of clauses) (dispatch_of clauses) fault
    (sym (walk [] clauses none_break) ∙ e)

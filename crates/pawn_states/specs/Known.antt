-- What is known of clauses so far, as it grows by one clause; for the private functions.
use Rattle.std.specs.Prelude.{◌≡◌, ℕ, ◌+◌, List, [], ◌∷◌, ◌++◌, Option, None, Some, Result, Ok, Err}
use Rattle.std.specs.Prelude.{is_some, unwrap_or, if◌then◌else◌}
use Rattle.std.specs.Str.{bytes_eq}
use Rattle.pawn_base.specs.Among.{is_among}
use Rattle.pawn_states.specs.Classifier.{is_fallback}
use Rattle.pawn_states.specs.declared.classifier.Known.{Known}
use Rattle.pawn_states.specs.declared.clause.Clause.{Clause}
use Rattle.pawn_states.specs.declared.dispatch.Dispatch.{Dispatch}
use Rattle.pawn_states.specs.declared.fault.StateFault.{StateFault}
use Rattle.pawn_states.specs.declared.fault.StateFault.TheVariants.{Twice, FallbackTwice, Mixed}
use Rattle.pawn_states.specs.declared.fault.StateFault.TheVariants.{Memory}

-- before any clause
abbrev pub nothing : Known
nothing = record { automaton = None; states = []; cases = []; fallback = None }

-- a step behind another that breaks no rule
abbrev pub then_known : Result Known StateFault → (Known → Result Known StateFault)
    → Result Known StateFault
then_known (Ok known) rule = rule known
then_known (Err fault) rule = Err fault

-- a function has one fallback at most
abbrev pub with_fallback : Known → ℕ → Result Known StateFault
with_fallback known number =
    if is_some known.fallback then Err (FallbackTwice number)
    else Ok (record known { fallback = Some number })

-- all clauses of a function name one automaton
abbrev pub beside_automaton : Option (List ℕ) → Known → List ℕ → ℕ → Result Known StateFault
beside_automaton None known automaton number = Ok (record known { automaton = Some automaton })
beside_automaton (Some named) known automaton number =
    if bytes_eq named automaton then Ok known else Err (Mixed number)

-- with the automaton that a clause names
abbrev pub with_automaton : Known → List ℕ → ℕ → Result Known StateFault
with_automaton known automaton number = beside_automaton known.automaton known automaton number

-- with a state that a body serves, which no other clause names
abbrev pub with_state : Known → List ℕ → ℕ → Result Known StateFault
with_state known state number =
    if is_among state known.states then Err (Twice number)
    else Ok (record known {
      states = known.states ++ state ∷ [];
      cases = known.cases ++ (state, number) ∷ [];
    })

-- one behind another, up to the first that breaks a rule
abbrev pub with_states : Known → List (List ℕ) → ℕ → Result Known StateFault
with_states known [] number = Ok known
with_states known (state ∷ more) number =
    then_known (with_state known state number) (λ next. with_states next more number)

-- a fallback, or the states of an automaton
abbrev pub with_clause : Known → Clause → ℕ → Result Known StateFault
with_clause known clause number =
    if is_fallback clause then with_fallback known number
    else then_known (with_automaton known clause.automaton number)
    (λ next. with_states next clause.states number)

-- with clauses from a number on
abbrev pub with_clauses : Known → List Clause → ℕ → Result Known StateFault
with_clauses known [] number = Ok known
with_clauses known (clause ∷ more) number =
    then_known (with_clause known clause number) (λ next. with_clauses next more (number + 1))

-- the dispatch of all clauses that are known
abbrev pub dispatch_from : Known → Dispatch
dispatch_from known = record {
  automaton = unwrap_or known.automaton [];
  cases = known.cases;
  fallback = known.fallback;
}

-- what is known becomes this, or the answer is the fault. Want of memory is free
abbrev pub Becomes : Result Known StateFault → Known → Result (Unit {0}) StateFault → Type 0
Becomes wanted new (Ok done) = wanted ≡ Ok new
Becomes wanted new (Err (Twice clause)) = wanted ≡ Err (Twice clause)
Becomes wanted new (Err (FallbackTwice clause)) = wanted ≡ Err (FallbackTwice clause)
Becomes wanted new (Err (Mixed clause)) = wanted ≡ Err (Mixed clause)
Becomes wanted new (Err Memory) = Unit {0}

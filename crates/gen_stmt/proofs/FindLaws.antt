-- A pair that has a state, among those from a number on; and what stands at a place of a program's
-- tables.
use Rattle.std.proofs.Common.{◌≡◌, ◌+◌, ◌<◌, ◌==◌, ℕ, suc, List, [], ◌∷◌, Bool, true, false, drop}
use Rattle.std.proofs.Common.{find, get_or, is_some, length, map, option_map, slice_get, add-one}
use Rattle.std.proofs.Common.{refl, sym, ap, ◌∙◌, arith}
use Rattle.std.proofs.Math.Seq.{drop-cons}
use Rattle.std.proofs.lemmas.List.{drop_all}
use Rattle.std.proofs.lemmas.Option.{slice_get-map}
use Rattle.pawn_meaning.specs.View.{automaton_view, function_view}
use Rattle.pawn_meaning.specs.declared.program.Automaton.{Automaton}
use Rattle.pawn_meaning.specs.declared.program.Function.{Function}

-- whether one from a number on has it
abbrev has : ℕ → List (ℕ × ℕ) → Bool
has state cases = is_some (find (λ case. case.0 == state) cases)

step : (cases : List (ℕ × ℕ)) (i : ℕ) (case : ℕ × ℕ) (state : ℕ) → i < length cases
    → case ≡ get_or cases i case
    → has state (drop i cases) ≡ has state (case ∷ drop (i + 1) cases)
step cases i case state within is =
    ap (λ l. has state l) (drop-cons cases i case within)
    ∙ ap (λ x. has state (x ∷ drop (suc i) cases)) (sym is)
    ∙ ap (λ k. has state (case ∷ drop k cases)) (sym (add-one i))

pub found_here : (cases : List (ℕ × ℕ)) (i : ℕ) (case : ℕ × ℕ) (state : ℕ) → i < length cases
    → case ≡ get_or cases i case
    → (case.0 == state) ≡ true → is_some (find (λ case. case.0 == state) (drop i cases)) ≡ true
found_here cases i case state within is e = step cases i case state within is ∙ rw e refl

pub found_later : (cases : List (ℕ × ℕ)) (i : ℕ) (case : ℕ × ℕ) (state : ℕ) → i < length cases
    → case ≡ get_or cases i case
    → (case.0 == state) ≡ false
    → is_some (find (λ case. case.0 == state) (drop i cases))
    ≡ is_some (find (λ case. case.0 == state) (drop (i + 1) cases))
found_later cases i case state within is e = step cases i case state within is ∙ rw e refl

pub found_nowhere : (cases : List (ℕ × ℕ)) (i state : ℕ) → i ≡ length cases
    → is_some (find (λ case. case.0 == state) (drop i cases)) ≡ false
found_nowhere cases i state e = ap (λ l. has state l) (drop_all i cases (omega (arith, e)))

-- the pairs of a route, as they are seen
pub viewed : (cases : List (ℕ × ℕ)) → map (λ case. (case.0, case.1)) cases ≡ cases
viewed [] = refl
viewed (case ∷ cases) = ap (λ l. case ∷ l) (viewed cases)

pub functions_seen : (functions : List Function) (f : ℕ)
    → slice_get (map function_view functions) f ≡ option_map function_view (slice_get functions f)
functions_seen functions f = slice_get-map function_view functions f

pub automata_seen : (automata : List Automaton) (a : ℕ)
    → slice_get (map automaton_view automata) a ≡ option_map automaton_view (slice_get automata a)
automata_seen automata a = slice_get-map automaton_view automata a

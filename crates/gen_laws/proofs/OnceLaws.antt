-- A body makes each of its slots once, and the greatest of some numbers is at least each.
use Rattle.std.proofs.Common.{◌≡◌, ◌≢◌, ◌+◌, ◌<◌, ◌≤◌, ⊎_elim, ℕ, zero, suc, List, [], ◌∷◌, Some}
use Rattle.std.proofs.Common.{Bool, true, false, ◌==◌, max, map, slice_get, if◌then◌else◌, refl}
use Rattle.std.proofs.Common.{subst, arith, eq-eqb, ne_eqb, eqb-true}
use Rattle.std.specs.Prelude.{Any, IsPermutation, sum_by}
use Rattle.std.proofs.lemmas.List.Sums.{sum_by-cons}
use Rattle.std.proofs.lemmas.List.Sorted.{sum_by-IsPermutation}
use Rattle.pawn_meaning.specs.Valid.{numbers_from}
use Rattle.pawn_meaning.specs.Need.{greatest}
use Rattle.gen_sim.specs.Fits.{AreOnce}
use Rattle.gen_sim.proofs.LocalScopes.{any_cases}

-- how often a number stands among others
abbrev same : ℕ → ℕ → ℕ
same s n = if n == s then 1 else 0

abbrev times : ℕ → List ℕ → ℕ
times s ns = sum_by (λ n. same s n) ns

same_is : (s n : ℕ) → n ≡ s → same s n ≡ 1
same_is s n e = rw (eq-eqb n s e) refl

same_not : (s n : ℕ) → n ≢ s → same s n ≡ 0
same_not s n h = rw (ne_eqb n s h) refl

times_more : (s n : ℕ) (ns : List ℕ) → times s (n ∷ ns) ≡ same s n + times s ns
times_more s n ns = sum_by-cons (λ k. same s k) n ns

any_times : (s : ℕ) (ns : List ℕ) → Any (λ n. n ≡ s) ns → 1 ≤ times s ns
any_times s [] h = absurd (omega (arith, h.2))
any_times s (n ∷ ns) h =
    ⊎_elim (λ e. omega (arith, times_more s n ns, same_is s n e))
    (λ a. omega (arith, times_more s n ns, any_times s ns a))
    (any_cases (λ k. k ≡ s) n ns h)

once_by : (ns : List ℕ) → ((s : ℕ) → times s ns ≤ 1) → AreOnce ns
once_by [] h = tt
once_by (n ∷ ns) h = (
  λ a. omega (arith, h n, times_more n n ns, same_is n n refl, any_times n ns a),
  once_by ns (λ s. omega (arith, h s, times_more s n ns)),
)

none_below : (s first count : ℕ) → s < first → times s (numbers_from first count) ≡ 0
none_below s first zero h = refl
none_below s first (suc count) h =
    let apart : first ≢ s = λ e. omega (arith, e, h) in
    omega (
      arith,
      times_more s first (numbers_from (first + 1) count),
      same_not s first apart,
      none_below s (first + 1) count (omega (arith, h)),
    )

most_once : (s first count : ℕ) → times s (numbers_from first count) ≤ 1
most_once s first zero = omega arith
most_once s first (suc count) = by (first == s) refl (most_once s (first + 1) count)
  where
    more : times s (first ∷ numbers_from (first + 1) count)
        ≡ same s first + times s (numbers_from (first + 1) count)
    more = times_more s first (numbers_from (first + 1) count)

    by : (b : Bool) → (first == s) ≡ b → times s (numbers_from (first + 1) count) ≤ 1
        → times s (first ∷ numbers_from (first + 1) count) ≤ 1
    by true e rest =
        let is = eqb-true first s e in
        omega (arith, more, same_is s first is, none_below s (first + 1) count (omega (arith, is)))
    by false e rest = let none : same s first ≡ 0 = rw e refl in omega (arith, more, none, rest)

pub made_once : (slots : List ℕ) (first count : ℕ) → IsPermutation slots (numbers_from first count)
    → AreOnce slots
made_once slots first count h =
    once_by slots (λ s. omega (
      arith,
      sum_by-IsPermutation (λ n. same s n) slots (numbers_from first count) h,
      most_once s first count,
    ))

pub greatest_of : {A : Type 0} (f : A → ℕ) (xs : List A) (i : ℕ) (x : A) → slice_get xs i ≡ Some x
    → f x ≤ greatest (map f xs)
greatest_of f [] i x e = cc
greatest_of f (y ∷ ys) zero x e =
    let is : y ≡ x = cc in subst (λ z. f z ≤ max (f y) (greatest (map f ys))) is (omega arith)
greatest_of f (y ∷ ys) (suc i) x e = omega (arith, greatest_of f ys i x e)

-- Walks over a list, from its first item on: the greatest of numbers, and their sum, as answers.
use Rattle.std.proofs.Common.{◌≡◌, ℕ, zero, suc, ◌+◌, ◌≤◌, ◌<◌, min, max, List, [], ◌∷◌, map}
use Rattle.std.proofs.Common.{length, get_or, drop, refl, sym, ◌∙◌, ap, arith}
use Rattle.std.specs.List.{sum_by}
use Rattle.std.proofs.lemmas.List.{drop_all}
use Rattle.std.proofs.lemmas.List.Sums.{sum_by-cons}
use Rattle.pawn_meaning.specs.Capped.{capped}
use Rattle.pawn_meaning.specs.Need.{greatest}

-- the greatest so far, of the items before i
pub record IsGreatest {A : Type 0} (of : A → ℕ) (xs : List A) (i n : ℕ) : Type 0 where
  pub same : max n (capped (greatest (map of (drop i xs)))) ≡ capped (greatest (map of xs))

pub greatest_begins : {A : Type 0} {of : A → ℕ} {xs : List A} → IsGreatest of xs 0 0
greatest_begins = record { same = omega arith }

greatest_step : {A : Type 0} (of : A → ℕ) (xs : List A) (i : ℕ) (x d : A) → i < length xs
    → x ≡ get_or xs i d
    → max (of x) (greatest (map of (drop (suc i) xs))) ≡ greatest (map of (drop i xs))
greatest_step of [] i x d l e = absurd (omega arith)
greatest_step of (y ∷ ys) zero x d l e = rw e refl
greatest_step of (y ∷ ys) (suc i) x d l e = greatest_step of ys i x d (omega arith) e

pub greatest_more : {A : Type 0} {of : A → ℕ} {xs : List A} {i n : ℕ} (x d : A) (m : ℕ)
    → IsGreatest of xs i n → i < length xs → x ≡ get_or xs i d → m ≡ capped (of x)
    → IsGreatest of xs (i + 1) (max n m)
greatest_more {of = of} {xs = xs} {i = i} x d m p l e c =
    let s = greatest_step of xs i x d l e in
    let q = p.same in let next : i + 1 ≡ suc i = omega arith in
    rw next (record { same = omega arith })

pub greatest_ends : {A : Type 0} (of : A → ℕ) (xs : List A) (i n : ℕ) → IsGreatest of xs i n
    → length xs ≤ i → n ≡ capped (greatest (map of xs))
greatest_ends of xs i n p l =
    let none : n ≡ max n 0 = omega arith in
    none ∙ sym (ap (λ ys. max n (capped (greatest (map of ys)))) (drop_all i xs l)) ∙ p.same

-- the sum so far, of the items before i
pub record IsSum {A : Type 0} (of : A → ℕ) (xs : List A) (i n : ℕ) : Type 0 where
  pub same : capped (n + sum_by of (drop i xs)) ≡ capped (sum_by of xs)
  pub low : n ≤ capped n

pub sum_begins : {A : Type 0} {of : A → ℕ} {xs : List A} → IsSum of xs 0 0
sum_begins = record { same = omega arith; low = omega arith }

sum_step : {A : Type 0} (of : A → ℕ) (xs : List A) (i : ℕ) (x d : A) → i < length xs
    → x ≡ get_or xs i d
    → of x + sum_by of (drop (suc i) xs) ≡ sum_by of (drop i xs)
sum_step of [] i x d l e = absurd (omega arith)
sum_step of (y ∷ ys) zero x d l e = rw e (sym (sum_by-cons of y ys))
sum_step of (y ∷ ys) (suc i) x d l e = sum_step of ys i x d (omega arith) e

pub sum_more : {A : Type 0} {of : A → ℕ} {xs : List A} {i n : ℕ} (x d : A) (m : ℕ) → IsSum of xs i n
    → i < length xs → x ≡ get_or xs i d → m ≡ capped (of x)
    → IsSum of xs (i + 1) (capped (n + m))
sum_more {of = of} {xs = xs} {i = i} x d m p l e c =
    let s = sum_step of xs i x d l e in let q = p.same in let next : i + 1 ≡ suc i = omega arith in
    rw next (record { same = omega arith; low = omega arith })

pub sum_ends : {A : Type 0} (of : A → ℕ) (xs : List A) (i n : ℕ) → IsSum of xs i n → length xs ≤ i
    → n ≡ capped (sum_by of xs)
sum_ends of xs i n p l =
    let low = p.low in
    let none : n ≡ capped (n + 0) = omega arith in
    none ∙ sym (ap (λ ys. capped (n + sum_by of ys)) (drop_all i xs l)) ∙ p.same

-- A cell has one shortest spelling.
use Rattle.std.proofs.Common.{◌≡◌, ◌+◌, ◌*◌, ◌/◌, ◌%◌, ◌^◌, ◌<◌, ◌≤◌, ◌⊎◌, ℕ, zero, suc, List, []}
use Rattle.std.proofs.Common.{◌∷◌, length, slice_index, ℤ, pos, ◌-ℤ◌, FitsSigned, w32, refl, sym}
use Rattle.std.proofs.Common.{ap, ◌∙◌, arith, inl, inr, subst, le_refl, lit<, mul-le-mul}
use Rattle.std.proofs.Math.Nat.{eq-or-lt_of_le, pow-suc, pow-le-pow_right}
use Rattle.std.proofs.lemmas.Int.{ints, int_wrap_fits, of_z-to_z}
use Rattle.std.proofs.lemmas.Nat.{div-mul-add}
use Rattle.std.specs.Int.{int_wrap}
use Rattle.pawn_cells.specs.Cells.{bits_of, wrap}
use Rattle.amx_compact.specs.Spelled.{group_sum, sign, Ends, Spelled, Shortest}

-- so many groups hold less than this
group_sum-below : (bytes : List ℕ) → group_sum bytes < 128 ^ length bytes
group_sum-below [] = omega arith
group_sum-below (byte ∷ rest) =
    let below = group_sum-below rest in
    let power : 128 ^ suc (length rest) ≡ 128 ^ length rest * 128 = pow-suc 128 (length rest) in
    let high : byte % 128 * 128 ^ length rest ≤ 127 * 128 ^ length rest =
    mul-le-mul (omega arith) (le_refl (128 ^ length rest)) in
    omega arith

same_quotient : (x y p s t : ℕ) → s < p → t < p → x * p + s ≡ y * p + t → x ≡ y
same_quotient x y p s t h k e =
    sym (div-mul-add x p s h) ∙ ap (λ (n : ℕ). n / p) e ∙ div-mul-add y p t k

-- bytes of one sum and one length are the same
same_bytes : (a b : List ℕ) → Ends a → Ends b → length a ≡ length b
    → group_sum a ≡ group_sum b → a ≡ b
same_bytes [] b e f l s = absurd e
same_bytes (x ∷ xs) [] e f l s = absurd f
same_bytes (x ∷ []) (y ∷ []) e f l s = ap (λ (n : ℕ). n ∷ []) (omega arith)
same_bytes (x ∷ []) (y ∷ y' ∷ ys) e f l s = absurd (omega arith)
same_bytes (x ∷ x' ∷ xs) (y ∷ []) e f l s = absurd (omega arith)
same_bytes (x ∷ x' ∷ xs) (y ∷ y' ∷ ys) e f l s =
    let p = 128 ^ length (x' ∷ xs) in
    let lengths : length (y' ∷ ys) ≡ length (x' ∷ xs) = omega arith in
    let power : 128 ^ length (y' ∷ ys) ≡ p = ap (λ (n : ℕ). 128 ^ n) lengths in
    let sums : x % 128 * p + group_sum (x' ∷ xs) ≡ y % 128 * p + group_sum (y' ∷ ys) =
    s ∙ ap (λ (n : ℕ). y % 128 * n + group_sum (y' ∷ ys)) power in
    let below : group_sum (y' ∷ ys) < p =
    subst (λ (n : ℕ). group_sum (y' ∷ ys) < n) power (group_sum-below (y' ∷ ys)) in
    let groups : x % 128 ≡ y % 128 =
    same_quotient (x % 128) (y % 128) p (group_sum (x' ∷ xs)) (group_sum (y' ∷ ys))
    (group_sum-below (x' ∷ xs)) below sums in
    let worth : x % 128 * p ≡ y % 128 * p = ap (λ (n : ℕ). n * p) groups in
    let rest : x' ∷ xs ≡ y' ∷ ys =
    same_bytes (x' ∷ xs) (y' ∷ ys) e.2 f.2 (sym lengths) (omega arith) in
    let byte : x ≡ y = omega (arith, e.0, e.1, f.0, f.1, groups) in
    ap (λ (n : ℕ). n ∷ (x' ∷ xs)) byte ∙ ap (λ list. y ∷ list) rest

zero_or_one : (n : ℕ) → n < 2 → (n ≡ 0) ⊎ (n ≡ 1)
zero_or_one zero h = inl refl
zero_or_one (suc zero) h = inr refl
zero_or_one (suc (suc n)) h = absurd (omega arith)

sign_is : (bytes : List ℕ) → (sign bytes ≡ 0) ⊎ (sign bytes ≡ 1)
sign_is [] = inl refl
sign_is (byte ∷ rest) = zero_or_one (byte / 64 % 2) (omega arith)

-- the sign's worth
sign_worth : (bytes : List ℕ) → (sign bytes * 128 ^ length bytes ≡ 0)
    ⊎ (sign bytes * 128 ^ length bytes ≡ 128 ^ length bytes)
sign_worth bytes = elim (sign_is bytes) [
  | inl e ↦ inl (ap (λ (n : ℕ). n * 128 ^ length bytes) e ∙ omega arith)
  | inr e ↦ inr (ap (λ (n : ℕ). n * 128 ^ length bytes) e ∙ omega arith)
]

-- a number of up to 28 bits is the cell
fitting : (cell : ℤ) (m q n : ℕ) → m < n → (q ≡ 0) ⊎ (q ≡ n) → n ≤ 2 ^ 28
    → cell ≡ wrap (pos m -ℤ pos q) → cell ≡ pos m -ℤ pos q
fitting cell m q n h (inl k) l e =
    let fits : FitsSigned w32 (pos m -ℤ pos q) = omega (arith, ints) in
    e ∙ int_wrap_fits w32 (pos m -ℤ pos q) fits
fitting cell m q n h (inr k) l e =
    let fits : FitsSigned w32 (pos m -ℤ pos q) = omega (arith, ints) in
    e ∙ int_wrap_fits w32 (pos m -ℤ pos q) fits

same_sum : (m q m' q' n : ℕ) → m < n → m' < n → (q ≡ 0) ⊎ (q ≡ n) → (q' ≡ 0) ⊎ (q' ≡ n)
    → pos m -ℤ pos q ≡ pos m' -ℤ pos q' → m ≡ m'
same_sum m q m' q' n h k (inl a) (inl b) e = omega (arith, ints)
same_sum m q m' q' n h k (inl a) (inr b) e = absurd (omega (arith, ints))
same_sum m q m' q' n h k (inr a) (inl b) e = absurd (omega (arith, ints))
same_sum m q m' q' n h k (inr a) (inr b) e = omega (arith, ints)

-- up to four bytes
short_sums : (cell : ℤ) (a b : List ℕ) → Spelled cell a → Spelled cell b → length a ≡ length b
    → length a < 5 → group_sum a ≡ group_sum b
short_sums cell a b s t l h =
    let power : 128 ^ length a ≤ 128 ^ 4 =
    pow-le-pow_right {n = 128} (lit< tt) {i = length a} {j = 4} (omega arith) in
    let same : 128 ^ length b ≡ 128 ^ length a = ap (λ (n : ℕ). 128 ^ n) (sym l) in
    let below = group_sum-below b in
    let left =
    fitting cell (group_sum a) (sign a * 128 ^ length a) (128 ^ length a)
    (group_sum-below a) (sign_worth a) power s.sum in
    let right =
    fitting cell (group_sum b) (sign b * 128 ^ length b) (128 ^ length b) below
    (sign_worth b) (omega arith) t.sum in
    same_sum (group_sum a) (sign a * 128 ^ length a) (group_sum b) (sign b * 128 ^ length b)
    (128 ^ length a) (group_sum-below a) (omega arith) (sign_worth a)
    (subst (λ (n : ℕ). (sign b * 128 ^ length b ≡ 0) ⊎ (sign b * 128 ^ length b ≡ n)) same
    (sign_worth b)) (sym left ∙ right)

bits_of-wrap : (n : ℕ) → n < 2 ^ 32 → bits_of (wrap (pos n)) ≡ n
unfolding int_wrap
bits_of-wrap n h = of_z-to_z w32 (n % 2 ^ 32) (omega arith) ∙ omega arith

less_none : (m n : ℕ) → pos m -ℤ pos (0 * n) ≡ pos m
less_none m n = omega (arith, ints)

-- five bytes whose first group is below 16
full_sum : (cell : ℤ) (bytes : List ℕ) → Spelled cell bytes → length bytes ≡ 5
    → slice_index bytes 0 % 128 < 16 → bits_of cell ≡ group_sum bytes
full_sum cell [] s l h = absurd (omega arith)
full_sum cell (byte ∷ rest) s l h =
    let positive : sign (byte ∷ rest) ≡ 0 = omega arith in
    let four : length rest ≡ 4 = omega arith in
    let power : 128 ^ length rest ≡ 128 ^ 4 = ap (λ (n : ℕ). 128 ^ n) four in
    let below = group_sum-below rest in
    let small : byte % 128 * 128 ^ length rest ≡ byte % 128 * 128 ^ 4 =
    ap (λ (n : ℕ). byte % 128 * n) power in
    let none : pos (group_sum (byte ∷ rest)) -ℤ pos
    (sign (byte ∷ rest) * 128 ^ length (byte ∷ rest)) ≡ pos (group_sum (byte ∷ rest)) =
    ap (λ (n : ℕ). pos (group_sum (byte ∷ rest)) -ℤ pos (n * 128 ^ length (byte ∷ rest))) positive
    ∙ less_none (group_sum (byte ∷ rest)) (128 ^ length (byte ∷ rest)) in
    ap bits_of (s.sum ∙ ap wrap none) ∙ bits_of-wrap (group_sum (byte ∷ rest)) (omega arith)

same_sums : (cell : ℤ) (a b : List ℕ) → Shortest cell a → Shortest cell b → length a ≡ length b
    → (length a ≡ 5) ⊎ (length a < 5) → group_sum a ≡ group_sum b
same_sums cell a b s t l (inl h) =
    sym (full_sum cell a s.spelled h (s.filled h))
    ∙ full_sum cell b t.spelled (sym l ∙ h) (t.filled (sym l ∙ h))
same_sums cell a b s t l (inr h) = short_sums cell a b s.spelled t.spelled l h

pub one_shortest : (cell : ℤ) (a b : List ℕ) → Shortest cell a → Shortest cell b → a ≡ b
one_shortest cell a b s t =
    let under = s.fewest b t.spelled in
    let over = t.fewest a s.spelled in
    let lengths : length a ≡ length b = omega arith in
    same_bytes a b s.spelled.ends t.spelled.ends lengths
    (same_sums cell a b s t lengths (eq-or-lt_of_le s.spelled.short))

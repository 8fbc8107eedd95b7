-- Division rounded down, from division rounded towards zero.
use Rattle.std.proofs.Common.{◌≡◌, ◌≢◌, ◌+◌, ◌-◌, ◌*◌, ◌/◌, ◌%◌, ◌^◌, ◌<◌, ◌≤◌, ℕ, zero, suc, ℤ}
use Rattle.std.proofs.Common.{pos, negsuc, ◌+ℤ◌, ◌-ℤ◌, ◌*ℤ◌, refl, sym, ap, ◌∙◌, arith, int_div}
use Rattle.std.proofs.Common.{int_rem, unsigned_abs, FitsSigned, to_z, of_z, to_z-of_z, w32, inl}
use Rattle.std.proofs.Common.{inr, subst}
use Rattle.std.proofs.Math.IntN.{pred_ℤ, pred_ℤ-*ℤ}
use Rattle.std.proofs.Math.Nat.{div-le_self, zero-div, zero-mod}
use Rattle.std.proofs.lemmas.Int.{ints, quot-rem, rem_below, int_wrap_fits, int_wrap-add_left}
use Rattle.std.proofs.lemmas.Int.{int_wrap-add_same, int_wrap-mul_left}
use Rattle.std.proofs.lemmas.Nat.{div-mul-add, div-add-mod'}
use Rattle.std.specs.Int.{int_wrap, int_wrapping_div}
use Rattle.pawn_cells.specs.Cells.{add, mul, floor_quotient, floor_div, floor_rem, IsCell}
use Rattle.pawn_cells.specs.Cells.{IsRemainder, wrap}
use Rattle.pawn_cells.specs.Signs.{IsOpposite}

quotient_is : (n d q r : ℕ) → n ≡ q * d + r → r < d → n / d ≡ q
quotient_is n d q r e h = ap (λ (m : ℕ). m / d) e ∙ div-mul-add q d r h

-- one more is no multiple: the quotient stays
quotient_stays : (n d : ℕ) → 0 < d → 0 < suc n % d → suc n / d ≡ n / d
quotient_stays n d h k =
    let whole = div-add-mod' (suc n) d in
    sym (quotient_is n d (suc n / d) (suc n % d - 1) (omega (arith, whole)) (omega arith))

multiple_after : (n d q : ℕ) → 0 < d → q * d ≡ suc n → q ≡ suc (n / d)
multiple_after n d zero h e = absurd (omega arith)
multiple_after n d (suc q) h e =
    ap suc (sym (quotient_is n d q (d - 1) (omega arith) (omega arith)))

-- one more is a multiple: the quotient rises
quotient_rises : (n d : ℕ) → 0 < d → suc n % d ≡ 0 → suc n / d ≡ suc (n / d)
quotient_rises n d h e =
    let whole = div-add-mod' (suc n) d in
    multiple_after n d (suc n / d) h (omega (arith, whole))

zero_unless : (r : ℕ) → ¬ (0 < r) → r ≡ 0
zero_unless zero h = refl
zero_unless (suc r) h = absurd (h (omega arith))

positive : (d : ℕ) → pos d ≢ pos 0 → 0 < d
positive zero h = absurd (h refl)
positive (suc d) h = omega arith

-- the quotient is one lower where the remainder's sign isn't the divisor's
floor_below : (a d : ℤ) → d ≢ pos 0 → IsOpposite (int_rem a d) d
    → floor_quotient a d ≡ int_div a d -ℤ pos 1
floor_below (pos a) (pos d) h (inl o) = absurd (omega (arith, ints))
floor_below (pos a) (pos d) h (inr o) = absurd (omega (arith, ints))
floor_below (pos zero) (negsuc d) h (inl o) = absurd (omega (arith, ints, zero-mod (suc d)))
floor_below (pos (suc a)) (negsuc d) h (inl o) =
    let stays : suc a / suc d ≡ a / suc d =
    quotient_stays a (suc d) (omega arith) (omega (arith, ints)) in omega (arith, ints)
floor_below (pos a) (negsuc d) h (inr o) = absurd (omega (arith, ints))
floor_below (negsuc a) (pos d) h (inl o) = absurd (omega (arith, ints))
floor_below (negsuc a) (pos d) h (inr o) =
    let stays : suc a / d ≡ a / d = quotient_stays a d (positive d h) (omega (arith, ints)) in
    omega (arith, ints)
floor_below (negsuc a) (negsuc d) h (inl o) = absurd (omega (arith, ints))
floor_below (negsuc a) (negsuc d) h (inr o) = absurd (omega (arith, ints))

-- elsewhere both round alike
floor_same : (a d : ℤ) → d ≢ pos 0 → ¬ IsOpposite (int_rem a d) d → floor_quotient a d ≡ int_div a d
floor_same (pos a) (pos d) h n = refl
floor_same (pos zero) (negsuc d) h n = omega (arith, ints, zero-div (suc d))
floor_same (pos (suc a)) (negsuc d) h n =
    let whole : suc a % suc d ≡ 0 =
    zero_unless (suc a % suc d) (λ left. n (inl (omega (arith, ints), omega (arith, ints))))
    in
    let rises : suc a / suc d ≡ suc (a / suc d) = quotient_rises a (suc d) (omega arith) whole in
    omega (arith, ints)
floor_same (negsuc a) (pos d) h n =
    let whole : suc a % d ≡ 0 =
    zero_unless (suc a % d) (λ left. n (inr (omega (arith, ints), omega (arith, ints)))) in
    let rises : suc a / d ≡ suc (a / d) = quotient_rises a d (positive d h) whole in
    omega (arith, ints)
floor_same (negsuc a) (negsuc d) h n = refl

-- a quotient is no larger in size than the dividend
unsigned_abs-quotient : (a d : ℤ) → unsigned_abs (int_div a d) ≤ unsigned_abs a
unsigned_abs-quotient (pos a) (pos d) = div-le_self a d
unsigned_abs-quotient (pos a) (negsuc d) = omega (arith, ints, div-le_self a (suc d))
unsigned_abs-quotient (negsuc a) (pos d) = omega (arith, ints, div-le_self (suc a) d)
unsigned_abs-quotient (negsuc a) (negsuc d) = div-le_self (suc a) (suc d)

sub_one : (q : ℤ) → q -ℤ pos 1 ≡ pred_ℤ q
sub_one (pos zero) = refl
sub_one (pos (suc n)) = omega (arith, ints)
sub_one (negsuc n) = omega (arith, ints)

linear_below : (a p d r : ℤ) → p +ℤ r ≡ a → a -ℤ (p -ℤ d) ≡ r +ℤ d
linear_below a p d r e = omega (arith, ints)

linear_same : (a p r : ℤ) → p +ℤ r ≡ a → a -ℤ p ≡ r
linear_same a p r e = omega (arith, ints)

-- the remainder rounded down, in both cases
floor_rem-below : (a d : ℤ) → d ≢ pos 0 → IsOpposite (int_rem a d) d
    → floor_rem a d ≡ int_rem a d +ℤ d
floor_rem-below a d h o =
    ap (λ q. a -ℤ (q *ℤ d)) (floor_below a d h o ∙ sub_one (int_div a d))
    ∙ ap (λ p. a -ℤ p) (pred_ℤ-*ℤ (int_div a d) d)
    ∙ linear_below a (int_div a d *ℤ d) d (int_rem a d) (quot-rem a d)

floor_rem-same : (a d : ℤ) → d ≢ pos 0 → ¬ IsOpposite (int_rem a d) d → floor_rem a d ≡ int_rem a d
floor_rem-same a d h n =
    ap (λ q. a -ℤ (q *ℤ d)) (floor_same a d h n)
    ∙ linear_same a (int_div a d *ℤ d) (int_rem a d) (quot-rem a d)

-- ---- what the code has, in cells

-- 32 bits hold a quotient below 0, and one less
below_fits : (a d : ℤ) → IsCell a → d ≢ pos 0 → IsOpposite (int_rem a d) d
    → IsCell (int_div a d) × IsCell (int_div a d -ℤ pos 1)
below_fits (pos a) (pos d) f h (inl o) = absurd (omega (arith, ints))
below_fits (pos a) (pos d) f h (inr o) = absurd (omega (arith, ints))
below_fits (pos a) (negsuc d) f h (inl o) =
    let less = div-le_self a (suc d) in (omega (arith, ints, f.sfits), omega (arith, ints, f.sfits))
below_fits (pos a) (negsuc d) f h (inr o) = absurd (omega (arith, ints))
below_fits (negsuc a) (pos d) f h (inl o) = absurd (omega (arith, ints))
below_fits (negsuc a) (pos d) f h (inr o) =
    let stays : suc a / d ≡ a / d = quotient_stays a d (positive d h) (omega (arith, ints)) in
    let less = div-le_self a d in
    (omega (arith, ints, f.sfits), omega (arith, ints, f.sfits))
below_fits (negsuc a) (negsuc d) f h (inl o) = absurd (omega (arith, ints))
below_fits (negsuc a) (negsuc d) f h (inr o) = absurd (omega (arith, ints))

-- what the host's division leaves of a quotient too wide is what wrapping leaves
wrap_quotient : (z : ℤ) → unsigned_abs z ≤ 2 ^ 31 → to_z w32 (of_z w32 z) ≡ wrap z
unfolding int_wrap
wrap_quotient (pos n) h = ap (to_z w32) (omega arith)
wrap_quotient (negsuc n) h = ap (to_z w32) (omega arith)

cell_size : (a : ℤ) → IsCell a → unsigned_abs a ≤ 2 ^ 31
cell_size (pos n) f = omega (arith, f.sfits)
cell_size (negsuc n) f = omega (arith, f.sfits)

quotient_is_wrapped : (a d q : ℤ) → IsCell a → IsCell d → IsCell q
    → q ≡ int_wrapping_div w32 (to_z w32 (of_z w32 a)) (to_z w32 (of_z w32 d))
    → to_z w32 (of_z w32 q) ≡ wrap (int_div a d)
quotient_is_wrapped a d q f g k e =
    let size : unsigned_abs (int_div a d) ≤ 2 ^ 31 =
    omega (arith, unsigned_abs-quotient a d, cell_size a f) in
    to_z-of_z k ∙ e ∙ ap (λ x. int_wrapping_div w32 x (to_z w32 (of_z w32 d))) (to_z-of_z f)
    ∙ ap (int_wrapping_div w32 a) (to_z-of_z g)
    ∙ wrap_quotient (int_div a d) size

-- a cell as the code passes it
abbrev pub code : ℤ → ℤ
code z = to_z w32 (of_z w32 z)

-- the host's remainder of a cell by a cell other than 0
pub record Divided (a d r : ℤ) : Type 0 where
  pub dividend : IsCell a
  pub divisor : IsCell d
  pub divides : d ≢ pos 0
  pub rest : IsCell r
  pub is_rest : r ≡ int_rem (code a) (code d)

pub divided : {a d r : ℤ} → IsCell a → IsCell d → d ≢ pos 0 → IsCell r
    → r ≡ int_rem (code a) (code d) → Divided a d r
divided a d h r e =
    record { dividend = a; divisor = d; divides = h; rest = r; is_rest = e }

rest_is : (a d r : ℤ) → Divided a d r → code r ≡ int_rem a d
rest_is a d r g =
    to_z-of_z g.rest ∙ g.is_rest ∙ ap (λ x. int_rem x (code d)) (to_z-of_z g.dividend)
    ∙ ap (int_rem a) (to_z-of_z g.divisor)

moved_test : (x y a d : ℤ) → x ≡ a → y ≡ d → IsOpposite x y → IsOpposite a d
moved_test x y a d e g o = subst (λ z. IsOpposite z d) e (subst (λ z. IsOpposite x z) g o)

-- the code's test is that of the remainder and the divisor
opposite_is : (a d r : ℤ) → Divided a d r → IsOpposite (code r) (code d)
    → IsOpposite (int_rem a d) d
opposite_is a d r g o =
    moved_test (code r) (code d) (int_rem a d) d (rest_is a d r g) (to_z-of_z g.divisor) o

alike_is : (a d r : ℤ) → Divided a d r → ¬ IsOpposite (code r) (code d)
    → ¬ IsOpposite (int_rem a d) d
alike_is a d r g n o =
    n (moved_test (int_rem a d) d (code r) (code d) (sym (rest_is a d r g))
    (sym (to_z-of_z g.divisor)) o)

-- the quotient, one lower
below_value : (a d q : ℤ) → IsCell a → d ≢ pos 0 → IsOpposite (int_rem a d) d
    → q ≡ wrap (int_div a d)
    → FitsSigned w32 (q -ℤ pos 1) × (to_z w32 (of_z w32 (q -ℤ pos 1)) ≡ floor_div a d)
below_value a d q f h o e =
    let both = below_fits a d f h o in
    let lower = floor_below a d h o in
    let same : q ≡ int_div a d = e ∙ int_wrap_fits w32 (int_div a d) both.0 in
    let fits : FitsSigned w32 (q -ℤ pos 1) =
    subst (λ z. FitsSigned w32 (z -ℤ pos 1)) (sym same) both.1 in
    let floor_fits : FitsSigned w32 (floor_quotient a d) =
    subst (FitsSigned w32) (sym lower) both.1 in (
      fits,
      to_z-of_z fits ∙ ap (λ z. z -ℤ pos 1) same ∙ sym lower
          ∙ sym (int_wrap_fits w32 (floor_quotient a d) floor_fits),
    )

-- and as it is
same_value : (a d q : ℤ) → d ≢ pos 0 → ¬ IsOpposite (int_rem a d) d → q ≡ wrap (int_div a d)
    → q ≡ floor_div a d
same_value a d q h n e = e ∙ ap wrap (sym (floor_same a d h n))

size_positive : (d : ℤ) → d ≢ pos 0 → 0 < unsigned_abs d
size_positive (pos d) h = positive d h
size_positive (negsuc d) h = omega arith

-- the remainder, the divisor added
rest_below : (a d r : ℤ) → IsCell d → d ≢ pos 0 → IsOpposite (int_rem a d) d → r ≡ int_rem a d
    → FitsSigned w32 (r +ℤ d) × (to_z w32 (of_z w32 (r +ℤ d)) ≡ floor_rem a d)
rest_below a d r g h (inl o) e =
    let small = rem_below a d (size_positive d h) in
    let fits : FitsSigned w32 (r +ℤ d) = omega (arith, ints) in
    (fits, to_z-of_z fits ∙ ap (λ z. z +ℤ d) e ∙ sym (floor_rem-below a d h (inl o)))
rest_below a d r g h (inr o) e =
    let small = rem_below a d (size_positive d h) in
    let fits : FitsSigned w32 (r +ℤ d) = omega (arith, ints) in
    (fits, to_z-of_z fits ∙ ap (λ z. z +ℤ d) e ∙ sym (floor_rem-below a d h (inr o)))

-- it lies from 0 towards the divisor
below_remainder : (a d : ℤ) → d ≢ pos 0 → IsOpposite (int_rem a d) d → IsRemainder (floor_rem a d) d
below_remainder a d h (inl o) =
    let small = rem_below a d (size_positive d h) in
    subst (λ r. IsRemainder r d) (sym (floor_rem-below a d h (inl o)))
    (inr (omega (arith, ints), omega (arith, ints)))
below_remainder a d h (inr o) =
    let small = rem_below a d (size_positive d h) in
    subst (λ r. IsRemainder r d) (sym (floor_rem-below a d h (inr o)))
    (inl (omega (arith, ints), omega (arith, ints)))

lies_towards : (r d : ℤ) → unsigned_abs r < unsigned_abs d → ¬ IsOpposite r d → IsRemainder r d
lies_towards (pos r) (pos d) h n = inl (omega (arith, ints), omega (arith, ints))
lies_towards (negsuc r) (pos d) h n = absurd (n (inr (omega (arith, ints), omega (arith, ints))))
lies_towards (pos zero) (negsuc d) h n = inr (omega (arith, ints), omega (arith, ints))
lies_towards (pos (suc r)) (negsuc d) h n =
    absurd (n (inl (omega (arith, ints), omega (arith, ints))))
lies_towards (negsuc r) (negsuc d) h n = inr (omega (arith, ints), omega (arith, ints))

same_remainder : (a d : ℤ) → d ≢ pos 0 → ¬ IsOpposite (int_rem a d) d
    → IsRemainder (floor_rem a d) d
same_remainder a d h n =
    subst (λ r. IsRemainder r d) (sym (floor_rem-same a d h n))
    (lies_towards (int_rem a d) d (rem_below a d (size_positive d h)) n)

sum_is : (a p : ℤ) → p +ℤ (a -ℤ p) ≡ a
sum_is a p = omega (arith, ints)

-- quotient and remainder make up the dividend
makes_up : (a d : ℤ) → IsCell a → add (mul (floor_div a d) d) (floor_rem a d) ≡ a
makes_up a d f =
    int_wrap-add_left w32 (floor_div a d *ℤ d) (floor_rem a d)
    ∙ int_wrap-add_same w32 (floor_div a d *ℤ d) (floor_quotient a d *ℤ d) (floor_rem a d)
    (int_wrap-mul_left w32 (floor_quotient a d) d)
    ∙ ap wrap (sum_is a (floor_quotient a d *ℤ d))
    ∙ int_wrap_fits w32 a f

-- ---- the clauses

-- where the remainder's sign isn't the divisor's
pub record RoundsUp (a d r q : ℤ) : Type 0 where
  pub fits : FitsSigned w32 (code q -ℤ pos 1)
  pub value : code (code q -ℤ pos 1) ≡ floor_div a d

pub quotient_below : (a d r q : ℤ) → Divided a d r → IsCell q
    → q ≡ int_wrapping_div w32 (code a) (code d) → IsOpposite (code r) (code d) → RoundsUp a d r q
quotient_below a d r q g k e o =
    let found =
    below_value a d (code q) g.dividend g.divides (opposite_is a d r g o)
    (quotient_is_wrapped a d q g.dividend g.divisor k e) in
    record { fits = found.0; value = found.1 }

pub quotient_alike : (a d r q : ℤ) → Divided a d r → IsCell q
    → q ≡ int_wrapping_div w32 (code a) (code d) → ¬ IsOpposite (code r) (code d)
    → code q ≡ floor_div a d
quotient_alike a d r q g k e n =
    same_value a d (code q) g.divides (alike_is a d r g n)
    (quotient_is_wrapped a d q g.dividend g.divisor k e)

-- what the clauses say of a remainder
pub record Leaves (a d rest : ℤ) : Type 0 where
  pub value : rest ≡ floor_rem a d
  pub sign : IsRemainder rest d
  pub whole : add (mul (floor_div a d) d) rest ≡ a

leaves : (a d rest : ℤ) → IsCell a → rest ≡ floor_rem a d → IsRemainder (floor_rem a d) d
    → Leaves a d rest
leaves a d rest f e s = record {
  value = e;
  sign = subst (λ r. IsRemainder r d) (sym e) s;
  whole = ap (add (mul (floor_div a d) d)) e ∙ makes_up a d f;
}

rest_sum : (a d r : ℤ) → Divided a d r → IsOpposite (code r) (code d)
    → FitsSigned w32 (code r +ℤ code d) × (code (code r +ℤ code d) ≡ floor_rem a d)
rest_sum a d r g o =
    subst (λ y. FitsSigned w32 (code r +ℤ y) × (code (code r +ℤ y) ≡ floor_rem a d))
    (sym (to_z-of_z g.divisor))
    (rest_below a d (code r) g.divisor g.divides (opposite_is a d r g o) (rest_is a d r g))

pub rest_fits : (a d r : ℤ) → Divided a d r → IsOpposite (code r) (code d)
    → FitsSigned w32 (code r +ℤ code d)
rest_fits a d r g o = (rest_sum a d r g o).0

pub rest_leaves : (a d r : ℤ) → Divided a d r → IsOpposite (code r) (code d)
    → Leaves a d (code (code r +ℤ code d))
rest_leaves a d r g o =
    leaves a d (code (code r +ℤ code d)) g.dividend (rest_sum a d r g o).1
    (below_remainder a d g.divides (opposite_is a d r g o))

pub rest_alike : (a d r : ℤ) → Divided a d r → ¬ IsOpposite (code r) (code d) → Leaves a d (code r)
rest_alike a d r g n =
    let alike = alike_is a d r g n in
    leaves a d (code r) g.dividend (rest_is a d r g ∙ sym (floor_rem-same a d g.divides alike))
    (same_remainder a d g.divides alike)

-- Numbers with some of their bytes changed.
use Rattle.std.proofs.Common.{◌≡◌, inl, inr, ◌+◌, ◌-◌, ◌*◌, ◌/◌, ◌%◌, ◌^◌, ◌<◌, ◌≤◌, ℕ, zero, suc}
use Rattle.std.proofs.Common.{arith, refl, subst, sym}
use Rattle.amx_step.specs.CellBytes.{IsCount, IsPart}

abbrev pub changed : (bits from count n : ℕ) → ℕ
changed bits from count n =
    bits - bits / 256 ^ from % 256 ^ count * 256 ^ from + n % 256 ^ count * 256 ^ from

one : (bits from n : ℕ) → bits < 2 ^ 32 → from < 4 → changed bits from 1 n < 2 ^ 32
one bits zero n h f = omega arith
one bits (suc zero) n h f = omega arith
one bits (suc (suc zero)) n h f = omega arith
one bits (suc (suc (suc zero))) n h f = omega arith
one bits (suc (suc (suc (suc k)))) n h f = absurd (omega arith)

two : (bits from n : ℕ) → bits < 2 ^ 32 → from % 2 ≡ 0 → from < 4 → changed bits from 2 n < 2 ^ 32
two bits zero n h a f = omega arith
two bits (suc zero) n h a f = absurd (omega arith)
two bits (suc (suc zero)) n h a f = omega arith
two bits (suc (suc (suc zero))) n h a f = absurd (omega arith)
two bits (suc (suc (suc (suc k)))) n h a f = absurd (omega arith)

four : (bits from n : ℕ) → bits < 2 ^ 32 → from % 4 ≡ 0 → from < 4 → changed bits from 4 n < 2 ^ 32
four bits zero n h a f = omega arith
four bits (suc zero) n h a f = absurd (omega arith)
four bits (suc (suc zero)) n h a f = absurd (omega arith)
four bits (suc (suc (suc zero))) n h a f = absurd (omega arith)
four bits (suc (suc (suc (suc k)))) n h a f = absurd (omega arith)

changed_by : (bits from count n : ℕ) → bits < 2 ^ 32 → IsCount count → from % count ≡ 0 → from < 4
    → changed bits from count n < 2 ^ 32
changed_by bits from count n h (inl e) a f =
    subst (λ c. changed bits from c n < 2 ^ 32) (sym e) (one bits from n h f)
changed_by bits from count n h (inr (inl e)) a f =
    subst (λ c. changed bits from c n < 2 ^ 32) (sym e)
    (two bits from n h (subst (λ c. from % c ≡ 0) e a) f)
changed_by bits from count n h (inr (inr e)) a f =
    subst (λ c. changed bits from c n < 2 ^ 32) (sym e)
    (four bits from n h (subst (λ c. from % c ≡ 0) e a) f)

pub changed_fits : (bits from count n : ℕ) → bits < 2 ^ 32 → IsPart from count
    → changed bits from count n < 2 ^ 32
changed_fits bits from count n h p = changed_by bits from count n h p.is_count p.aligned p.below

pub moved_fits : (bits from count n : ℕ) → bits < 2 ^ 32 → IsPart from count
    → n % 256 ^ count * 256 ^ from < 2 ^ 32
moved_fits bits from count n h p = omega (arith, changed_fits bits from count n h p)

-- ---- powers of 256

pub worth_is : (p : ℕ) → p ≤ 4 → (1 * 2 ^ (8 * p)) % 2 ^ 64 ≡ 256 ^ p
worth_is zero h = refl
worth_is (suc zero) h = refl
worth_is (suc (suc zero)) h = refl
worth_is (suc (suc (suc zero))) h = refl
worth_is (suc (suc (suc (suc zero)))) h = refl
worth_is (suc (suc (suc (suc (suc k))))) h = absurd (omega (arith, h))

one_or_more : (p : ℕ) → p ≤ 4 → 1 ≤ 256 ^ p
one_or_more zero h = omega arith
one_or_more (suc zero) h = omega arith
one_or_more (suc (suc zero)) h = omega arith
one_or_more (suc (suc (suc zero))) h = omega arith
one_or_more (suc (suc (suc (suc zero)))) h = omega arith
one_or_more (suc (suc (suc (suc (suc k))))) h = absurd (omega (arith, h))

pub worth_some : (p : ℕ) → p ≤ 4 → 1 ≤ (1 * 2 ^ (8 * p)) % 2 ^ 64
worth_some p h = rw (worth_is p h) (one_or_more p h)

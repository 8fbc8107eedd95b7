-- Addresses that are counted from FRM.
use Rattle.std.proofs.Common.{◌≡◌, ◌+◌, ◌-◌, ◌^◌, ◌<◌, ◌≤◌, ◌+ℤ◌, inl, inr, ℕ, zero, suc, pos}
use Rattle.std.proofs.Common.{neg_ℤ, ap, ◌∙◌, arith}
use Rattle.std.proofs.lemmas.Int.{ints}
use Rattle.pawn_cells.specs.Cells.{bits_of, wrapped_sum}
use Rattle.gen_sim.proofs.Orders.{either}

pub frame_up : (frm n : ℕ) → frm + n < 2 ^ 31 → wrapped_sum frm (bits_of (pos n)) ≡ frm + n
frame_up frm n h = omega (arith, ints, h)

pub frame_down : (frm n : ℕ) → n ≤ frm → frm < 2 ^ 31
    → wrapped_sum frm (bits_of (neg_ℤ (pos n))) ≡ frm - n
frame_down frm zero h g = omega (arith, ints, h, g)
frame_down frm (suc n) h g = omega (arith, ints, h, g)

-- an offset that leads down, and up again: below FRM or above it
pub frame_behind : (frm n m : ℕ) → n ≤ frm → frm - n + m < 2 ^ 31 → frm < 2 ^ 31
    → wrapped_sum frm (bits_of (neg_ℤ (pos n) +ℤ pos m)) ≡ frm - n + m
frame_behind frm n m h small g = elim (either n m) [
  | inl up ↦
      let e : neg_ℤ (pos n) +ℤ pos m ≡ pos (m - n) = sum_up n m up in
      ap (λ z. wrapped_sum frm (bits_of z)) e
      ∙ frame_up frm (m - n) (omega (arith, up, small, h)) ∙ omega (arith, up, h)
  | inr down ↦
      let e : neg_ℤ (pos n) +ℤ pos m ≡ neg_ℤ (pos (n - m)) = sum_down n m down in
      ap (λ z. wrapped_sum frm (bits_of z)) e
      ∙ frame_down frm (n - m) (omega (arith, h)) g ∙ omega (arith, down, h)
]
  where
    sum_up : (n m : ℕ) → n ≤ m → neg_ℤ (pos n) +ℤ pos m ≡ pos (m - n)
    sum_up zero m h = omega (arith, ints, h)
    sum_up (suc n) m h = omega (arith, ints, h)

    sum_down : (n m : ℕ) → m < n → neg_ℤ (pos n) +ℤ pos m ≡ neg_ℤ (pos (n - m))
    sum_down n m h = omega (arith, ints, h)

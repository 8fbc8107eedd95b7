-- The pairs of a case table, one after the other.
use Rattle.std.proofs.Common.{◌≡◌, ◌+◌, ◌-◌, ◌<◌, ◌≤◌, ℕ, suc, ℤ, List, [], ◌∷◌, true, false, cond}
use Rattle.std.proofs.Common.{sym, ap, ◌∙◌, arith}
use Rattle.pawn_cells.specs.Cells.{bits_of, equal}
use Rattle.amx_ops.specs.Effects.{paired}

module _ (pairs : List ℤ) (v : ℤ) (count done other whole : ℕ) (less : done < count)
    (so_far : paired pairs v (count - done) other ≡ whole) where
  left : count - done ≡ suc (count - (done + 1))
  left = omega (arith, less)

  here : (xs : List ℤ) → pairs ≡ xs → paired xs v (suc (count - (done + 1))) other ≡ whole
  here xs e =
      sym (ap (λ xs. paired xs v (suc (count - (done + 1))) other) e)
      ∙ sym (ap (λ n. paired pairs v n other) left) ∙ so_far

  pub no_pair : pairs ≡ [] → other ≡ whole
  no_pair e = here [] e

  pub half_pair : (x : ℤ) → pairs ≡ x ∷ [] → other ≡ whole
  half_pair x e = here (x ∷ []) e

  pub pair_found : (x at : ℤ) (others : List ℤ) → pairs ≡ x ∷ at ∷ others → equal x v ≡ true
      → bits_of at ≡ whole
  pair_found x at others e t =
      sym (ap (λ b. cond b (bits_of at) (paired others v (count - (done + 1)) other)) t)
      ∙ here (x ∷ at ∷ others) e

  pub pair_next : (x at : ℤ) (others : List ℤ) → pairs ≡ x ∷ at ∷ others → equal x v ≡ false
      → paired others v (count - (done + 1)) other ≡ whole
  pair_next x at others e t =
      sym (ap (λ b. cond b (bits_of at) (paired others v (count - (done + 1)) other)) t)
      ∙ here (x ∷ at ∷ others) e

pub pairs_over : (pairs : List ℤ) (v : ℤ) (count done other whole : ℕ) → count ≤ done
    → paired pairs v (count - done) other ≡ whole → other ≡ whole
pairs_over pairs v count done other whole h so_far =
    let none : count - done ≡ 0 = omega (arith, h) in
    sym (ap (λ n. paired pairs v n other) none) ∙ so_far

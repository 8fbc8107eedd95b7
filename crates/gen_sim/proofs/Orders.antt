-- Two numbers stand in one order or the other.
use Rattle.std.proofs.Common.{◌≡◌, ◌<◌, ◌≤◌, ◌⊎◌, inl, inr, ℕ, Bool, true, false, nat_le, refl}
use Rattle.std.proofs.Common.{leb-true, leb-false}

either_by : (m n : ℕ) (b : Bool) → nat_le m n ≡ b → (m ≤ n) ⊎ (n < m)
either_by m n true e = inl (leb-true m n e)
either_by m n false e = inr (leb-false m n e)

pub either : (m n : ℕ) → (m ≤ n) ⊎ (n < m)
either m n = either_by m n (nat_le m n) refl

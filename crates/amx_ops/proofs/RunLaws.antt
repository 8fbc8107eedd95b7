-- How iterations and segments compute, a law for each answer of a move.
use Rattle.std.proofs.Common.{◌≡◌, ◌+◌, ℕ, zero, suc, refl, sym, subst}
use Rattle.amx_ops.specs.Runs.{Moved, Goes, Sleeps, Ends, Cut, Over, iterate, Steps, Asleep}
use Rattle.amx_ops.specs.Runs.{Over_by, segment, sleeps}

module _ {C E : Type 0} (move : C → Moved C E) where
  pub iterate-zero : (c : C) → iterate move zero c ≡ Cut c
  unfolding iterate
  iterate-zero c = refl

  pub iterate-goes : (n : ℕ) (c d : C) → move c ≡ Goes d → iterate move (suc n) c ≡ iterate move n d
  unfolding iterate
  iterate-goes n c d e =
      subst (λ m. (elim m [
        | Goes d ↦ iterate move n d
        | Sleeps d ↦ iterate move n d
        | Ends e d ↦ Over e d
      ]) ≡ iterate move n d) (sym e) refl

  pub iterate-sleeps : (n : ℕ) (c d : C) → move c ≡ Sleeps d
      → iterate move (suc n) c ≡ iterate move n d
  unfolding iterate
  iterate-sleeps n c d e =
      subst (λ m. (elim m [
        | Goes d ↦ iterate move n d
        | Sleeps d ↦ iterate move n d
        | Ends e d ↦ Over e d
      ]) ≡ iterate move n d) (sym e) refl

  pub iterate-ends : (n : ℕ) (c d : C) (x : E) → move c ≡ Ends x d
      → iterate move (suc n) c ≡ Over x d
  unfolding iterate
  iterate-ends n c d x e =
      subst (λ m. (elim m [
        | Goes d ↦ iterate move n d
        | Sleeps d ↦ iterate move n d
        | Ends e d ↦ Over e d
      ]) ≡ Over x d) (sym e) refl

  pub segment-zero : (k : ℕ) (c : C)
      → segment move zero k c ≡ record { stop = Steps; config = c; steps = k }
  unfolding segment
  segment-zero k c = refl

  pub segment-goes : (n k : ℕ) (c d : C) → move c ≡ Goes d
      → segment move (suc n) k c ≡ segment move n (k + 1) d
  unfolding segment
  segment-goes n k c d e =
      subst (λ m. (elim m [
        | Goes d ↦ segment move n (k + 1) d
        | Sleeps d ↦ record { stop = Asleep; config = d; steps = k + 1 }
        | Ends e d ↦ record { stop = Over_by e; config = d; steps = k + 1 }
      ]) ≡ segment move n (k + 1) d) (sym e) refl

  pub segment-sleeps : (n k : ℕ) (c d : C) → move c ≡ Sleeps d
      → segment move (suc n) k c ≡ record { stop = Asleep; config = d; steps = k + 1 }
  unfolding segment
  segment-sleeps n k c d e =
      subst (λ m. (elim m [
        | Goes d ↦ segment move n (k + 1) d
        | Sleeps d ↦ record { stop = Asleep; config = d; steps = k + 1 }
        | Ends e d ↦ record { stop = Over_by e; config = d; steps = k + 1 }
      ]) ≡ record { stop = Asleep; config = d; steps = k + 1 }) (sym e) refl

  pub segment-ends : (n k : ℕ) (c d : C) (x : E) → move c ≡ Ends x d
      → segment move (suc n) k c ≡ record { stop = Over_by x; config = d; steps = k + 1 }
  unfolding segment
  segment-ends n k c d x e =
      subst (λ m. (elim m [
        | Goes d ↦ segment move n (k + 1) d
        | Sleeps d ↦ record { stop = Asleep; config = d; steps = k + 1 }
        | Ends e d ↦ record { stop = Over_by e; config = d; steps = k + 1 }
      ]) ≡ record { stop = Over_by x; config = d; steps = k + 1 }) (sym e) refl

  pub sleeps-zero : (c : C) → sleeps move zero c ≡ 0
  unfolding sleeps
  sleeps-zero c = refl

  pub sleeps-goes : (n : ℕ) (c d : C) → move c ≡ Goes d → sleeps move (suc n) c ≡ sleeps move n d
  unfolding sleeps
  sleeps-goes n c d e =
      subst (λ m. (elim m [
        | Goes d ↦ sleeps move n d
        | Sleeps d ↦ suc (sleeps move n d)
        | Ends e d ↦ 0
      ]) ≡ sleeps move n d) (sym e) refl

  pub sleeps-sleeps : (n : ℕ) (c d : C) → move c ≡ Sleeps d
      → sleeps move (suc n) c ≡ suc (sleeps move n d)
  unfolding sleeps
  sleeps-sleeps n c d e =
      subst (λ m. (elim m [
        | Goes d ↦ sleeps move n d
        | Sleeps d ↦ suc (sleeps move n d)
        | Ends e d ↦ 0
      ]) ≡ suc (sleeps move n d)) (sym e) refl

  pub sleeps-ends : (n : ℕ) (c d : C) (x : E) → move c ≡ Ends x d → sleeps move (suc n) c ≡ 0
  unfolding sleeps
  sleeps-ends n c d x e =
      subst (λ m. (elim m [
        | Goes d ↦ sleeps move n d
        | Sleeps d ↦ suc (sleeps move n d)
        | Ends e d ↦ 0
      ]) ≡ 0) (sym e) refl

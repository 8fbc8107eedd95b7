-- What is dead is unseen: it tells a step nothing, and no step that goes on writes what stays dead.
use Rattle.std.specs.Prelude.{◌≡◌, ◌≢◌, ◌⊎◌, ◌*◌, ℕ, ℤ, pos, Bool, true, false, length}
use Rattle.std.specs.List.{slice_index_or}
use Rattle.amx_ops.specs.declared.amx.Amx.{Amx}
use Rattle.amx_ops.specs.State.{State, Turned, Goes, Errs, Halts, Asks}
use Rattle.amx_ops.specs.Access.{is_live}
use Rattle.amx_ops.specs.Step.{step}
use Rattle.amx_step.specs.Hosting.{AreInOrder}

-- a cell by its number
abbrev pub nth : State → ℕ → ℤ
nth s k = slice_index_or s.cells k (pos 0)

-- it is live
abbrev pub lives : State → ℕ → Bool
lives s k = is_live s (4 * k)

-- the same registers, and as many cells
pub record HaveRegisters (s t : State) : Type 0 where
  pub registers : t ≡ record s { cells = t.cells }
  pub size : length t.cells ≡ length s.cells

-- ---- what a step sees

-- two states that differ in dead cells alone
pub record DifferDead (s t : State) : Type 0 where
  pub have : HaveRegisters s t
  pub live : (k : ℕ) → lives s k ≡ true → nth s k ≡ nth t k

-- a cell was dead in both, and is as it was in each
abbrev pub IsUntouched : (s t u w : State) → ℕ → Type 0
IsUntouched s t u w k = (lives s k ≡ false) × (nth u k ≡ nth s k) × (nth w k ≡ nth t k)

-- behind a step of each: each cell is the same in both, or it was dead and neither wrote it
pub record StayAlike (s t u w : State) : Type 0 where
  pub have : HaveRegisters u w
  pub cells : (k : ℕ) → (nth u k ≡ nth w k) ⊎ IsUntouched s t u w k

-- the same outcome
abbrev pub EndAlike : State → State → Turned → Turned → Type 0
EndAlike s t (Goes u) (Goes w) = StayAlike s t u w
EndAlike s t (Goes u) (Errs e) = ⊥
EndAlike s t (Goes u) (Halts x w) = ⊥
EndAlike s t (Goes u) (Asks n w) = ⊥
EndAlike s t (Errs c) (Goes w) = ⊥
EndAlike s t (Errs c) (Errs e) = c ≡ e
EndAlike s t (Errs c) (Halts x w) = ⊥
EndAlike s t (Errs c) (Asks n w) = ⊥
EndAlike s t (Halts v u) (Goes w) = ⊥
EndAlike s t (Halts v u) (Errs e) = ⊥
EndAlike s t (Halts v u) (Halts x w) = (v ≡ x) × StayAlike s t u w
EndAlike s t (Halts v u) (Asks n w) = ⊥
EndAlike s t (Asks m u) (Goes w) = ⊥
EndAlike s t (Asks m u) (Errs e) = ⊥
EndAlike s t (Asks m u) (Halts x w) = ⊥
EndAlike s t (Asks m u) (Asks n w) = (m ≡ n) × StayAlike s t u w

-- ---- what a step writes

-- a cell that is dead before and behind it is as it was
abbrev pub Spares : State → State → Type 0
Spares s u = (k : ℕ) → lives s k ≡ false → lives u k ≡ false → nth u k ≡ nth s k

-- HALT 12 alone sweeps
abbrev pub SparesDead : State → Turned → Type 0
SparesDead s (Goes u) = Spares s u
SparesDead s (Errs c) = Unit {0}
SparesDead s (Halts v u) = v ≢ pos 12 → Spares s u
SparesDead s (Asks n u) = Spares s u

-- of every file and every state of its machine
pub record DeadIsUnseen : Type 0 where
  pub reads : (amx : Amx) (s t : State) → AreInOrder amx s → DifferDead s t
      → EndAlike s t (step amx s) (step amx t)
  pub writes : (amx : Amx) (s : State) → AreInOrder amx s → SparesDead s (step amx s)

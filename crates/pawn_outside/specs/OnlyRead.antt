-- Files that a call only read: what they hold is as it was.
use Rattle.std.specs.Prelude.{◌≡◌, ℕ, Option}
use Rattle.pawn_outside.specs.Held.{Held}
use Rattle.pawn_outside.specs.Rose.{risen}

-- for files that hold this, have this count of faults and don't fail where so, from their state
-- before the call to that after it, and what the call answers where they failed
pub record OnlyRead {F : Type 0}
    (held : F → Option Held) (faults : F → ℕ) (never_fails : F → Type 0)
    (old new : F) (Fails : Type 0) : Type 0 where
  pub same : held new ≡ held old
  pub steady : (¬ Fails) → faults new ≡ faults old
  pub cause : Fails → faults new ≡ risen (faults old)
  pub unfailing : never_fails old → never_fails new × (¬ Fails)

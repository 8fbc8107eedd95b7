-- The count of faults of files over a call: one more where it answers a fault, else as it was.
use Rattle.std.specs.Prelude.{◌≡◌, ◌≢◌, ◌⊎◌, ℕ}
use Rattle.pawn_outside.specs.Rose.{risen}
use Rattle.command_parts.specs.declared.status.Status.{Status}
use Rattle.command_parts.specs.declared.status.Status.TheVariants.{FileFault, SinkFault}

-- for files with this count of faults, which don't fail where so, and what the call answers where
-- they failed
pub record Calls {F : Type 0} (faults : F → ℕ) (never_fails : F → Type 0) (old new : F)
    (Fails : Type 0) : Type 0 where
  pub steady : (¬ Fails) → faults new ≡ faults old
  pub cause : Fails → faults new ≡ risen (faults old)
  pub unfailing : never_fails old → never_fails new × (¬ Fails)

-- the same of a command, whose sink may fail at the line of a fault of the files
pub record CommandCalls {F : Type 0} (faults : F → ℕ) (never_fails : F → Type 0) (old new : F)
    (status : Status) : Type 0 where
  pub steady : status ≢ FileFault → status ≢ SinkFault → faults new ≡ faults old
  pub once : (faults new ≡ faults old) ⊎ (faults new ≡ risen (faults old))
  pub cause : status ≡ FileFault → faults new ≡ risen (faults old)
  pub unfailing : never_fails old → never_fails new × (status ≢ FileFault)

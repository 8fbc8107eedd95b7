-- An image that `run` or `resume` put is taken by the next `resume`, but for a fault of the files
-- or want of memory, and unless its sleep was the code's last instruction.
use Rattle.std.specs.Prelude.{◌≡◌, ◌⊎◌, ℕ, ℤ, List, Option, Some}
use Rattle.pawn_outside.specs.Held.{Held}
use Rattle.amx_ops.specs.Moves.{Config}
use Rattle.amx_ops.specs.State.{State}
use Rattle.run_laws.specs.RestorableSleeps.{IsAtEnd}
use Rattle.command_parts.specs.declared.program.Program.{Program}
use Rattle.command_parts.specs.declared.status.Status.{Status}
use Rattle.command_parts.specs.declared.status.Status.TheVariants.{Asleep}
use Rattle.command_parts.specs.Program.{IsProgram}
use Rattle.command_parts.specs.Told.{Writes}
use Rattle.host_run.specs.Entry.{address_named}
use Rattle.commands.specs.Good.{IsFree}
use Rattle.commands.specs.GoodImage.{HoldsImage}
use Rattle.commands.specs.Names.{Names, run_words, resume_words}
use Rattle.commands.specs.Resumes.{GoesOn, Resumes, segment_from}
use Rattle.commands.specs.Runs.{IsStopped, Runs, program_trace}

-- whatever the next `resume` answers over the files that a call left, which fell asleep there
abbrev pub GoesOnBehind : {S : Type 0} → Writes S → Program → Names → Config → Held → Type 0
GoesOnBehind {S} writes program names c held = (next : ℕ) (after : Option Held) (old new : S)
    (answer : Status)
    → ¬ IsAtEnd program.file c.state
    → Resumes writes (resume_words names next) (Some held) after old new answer
    → IsStopped writes IsFree (Some held) after old new answer
    ⊎ GoesOn writes program (resume_words names next) c.state c.position (Some held) after old
    new answer

-- over files that tell what they hold
pub record PutIsResumed {S : Type 0} (writes : Writes S) : Type 0 where
  -- `run` fell asleep, from an entry on
  pub behind_run : (held after : Held) (names : Names) (program : Program) (entry : List ℕ)
      (steps : ℕ) (address : ℤ) (old new : S)
      → IsProgram (Some held) names.amx names.script program
      → address_named program.file entry ≡ Some address
      → Runs writes (run_words names steps entry) (Some held) (Some after) old new Asleep
      → GoesOnBehind writes program names (program_trace program address steps).config after
  -- and `resume` did, from an image on
  pub behind_resume : (held after : Held) (names : Names) (program : Program) (s : State)
      (position steps : ℕ) (old new : S)
      → IsProgram (Some held) names.amx names.script program
      → HoldsImage held names.image program s position
      → Resumes writes (resume_words names steps) (Some held) (Some after) old new Asleep
      → GoesOnBehind writes program names (segment_from program s position steps).config after

-- `resume AMX SCRIPT IMAGE`: what it answers, writes and puts, over the files that it reads.
use Rattle.std.specs.Prelude.{◌≡◌, ◌⊎◌, ℕ, List, [], Option, Some}
use Rattle.pawn_outside.specs.Held.{Held}
use Rattle.host_script.specs.declared.event.End.{End}
use Rattle.amx_ops.specs.Keeps.{IsRunnable}
use Rattle.amx_ops.specs.Moves.{Config, move}
use Rattle.amx_ops.specs.Runs.{Segmented, segment}
use Rattle.amx_ops.specs.State.{State}
use Rattle.amx_step.specs.Machine.{cell_count}
use Rattle.amx_image.specs.declared.fault.ImageFault.{ImageFault}
use Rattle.amx_image.specs.Faults.{first_fault}
use Rattle.amx_image.specs.Restored.{HasNoImage}
use Rattle.command_parts.specs.Unread.{IsRead, Unread}
use Rattle.command_parts.specs.declared.status.Status.{Status}
use Rattle.command_parts.specs.declared.stop.Stop.{Stop}
use Rattle.command_parts.specs.declared.stop.Stop.TheVariants.{NoMemory}
use Rattle.command_parts.specs.declared.program.Program.{Program}
use Rattle.command_parts.specs.Program.{IsProgram, NoProgram}
use Rattle.command_parts.specs.Told.{Writes}
use Rattle.commands.specs.Finishes.{Finishes}
use Rattle.commands.specs.Prepared.{IsServed, Unserved}
use Rattle.commands.specs.Runs.{IsStopped}
use Rattle.commands.specs.declared.resumes.TheConstants.{IMAGE_LIMIT}
use Rattle.command_parts.specs.declared.command.ResumeWords.{ResumeWords}
use Rattle.commands.specs.ImageLine.{TellsImage}
use Rattle.commands.specs.Restored.{IsImageOf}
use Rattle.commands.specs.Used.{with_used}

-- from a state and a position on, with one bound
abbrev pub segment_from : Program → State → ℕ → ℕ → Segmented Config End
segment_from program s position steps =
    segment (move program.file program.script) steps 0
    (record { state = s; position = position; events = [] })

-- ---- from a state

-- the file can be run and the natives are served, and it ends as the segment from there does
pub record GoesOn {S : Type 0} (writes : Writes S) (program : Program) (words : ResumeWords)
    (s : State) (position : ℕ) (held after : Option Held)
    (old new : S) (answer : Status) : Type 0 where
  pub runnable : IsRunnable program.file
  pub served : IsServed program
  pub finishes : let made = segment_from program s position words.steps in
      Finishes (with_used words.count made.steps writes.says) writes held after words.image
      program.digest made.stop made.config old new answer

-- it goes on, or a native isn't served
abbrev pub ResumesState : {S : Type 0} → Writes S → Program → ResumeWords → State → ℕ → Option Held
    → Option Held → S → S → Status → Type 0
ResumesState writes program words s position held after old new answer =
    IsStopped writes (Unserved program) held after old new answer
    ⊎ GoesOn writes program words s position held after old new answer

-- ---- from an image

-- the bytes are the image of no state, for their first fault
pub record RefusesImage {S : Type 0} (writes : Writes S) (program : Program) (bytes : List ℕ)
    (held after : Option Held) (old new : S)
    (answer : Status) : Type 0 where
  pub none : HasNoImage program.file program.digest bytes
  pub fault : ImageFault
  pub is_first : first_fault program.file (cell_count program.file) program.digest bytes
      ≡ Some fault
  pub kept : after ≡ held
  pub tells : TellsImage fault writes.says old new answer

-- or of this one, from which it goes on
pub record ResumesThere {S : Type 0} (writes : Writes S) (program : Program) (words : ResumeWords)
    (bytes : List ℕ) (held after : Option Held)
    (old new : S) (answer : Status) : Type 0 where
  pub state : State
  pub position : ℕ
  pub image : IsImageOf program bytes state position
  pub resumes : ResumesState writes program words state position held after old new answer

-- memory was wanting before the image was tried
pub data WantsMemory : Stop → Type 0 where
  wants_memory : WantsMemory NoMemory

-- whatever the bytes are
abbrev pub ResumesImage : {S : Type 0} → Writes S → Program → ResumeWords → List ℕ → Option Held
    → Option Held → S → S → Status → Type 0
ResumesImage writes program words bytes held after old new answer =
    IsStopped writes WantsMemory held after old new answer
    ⊎ (RefusesImage writes program bytes held after old new answer
    ⊎ ResumesThere writes program words bytes held after old new answer)

-- ---- the whole command

-- the image is read only behind a good file and a good script
abbrev pub ResumesProgram : {S : Type 0} → Writes S → Program → ResumeWords → Option Held
    → Option Held → S → S → Status → Type 0
ResumesProgram writes program words held after old new answer =
    IsStopped writes (Unread held words.image IMAGE_LIMIT) held after old new answer
    ⊎ IsRead held words.image IMAGE_LIMIT
    (λ bytes. ResumesImage writes program words bytes held after old new answer)

-- its files are good, and it resumes what they are
pub record ResumesGood {S : Type 0} (writes : Writes S) (words : ResumeWords)
    (held after : Option Held) (old new : S) (answer : Status) : Type 0 where
  pub program : Program
  pub good : IsProgram held words.amx words.script program
  pub resumes : ResumesProgram writes program words held after old new answer

-- nothing is put where the file or the script isn't good
abbrev pub Resumes : {S : Type 0} → Writes S → ResumeWords → Option Held → Option Held → S → S
    → Status → Type 0
Resumes writes words held after old new answer =
    IsStopped writes (NoProgram held words.amx words.script) held after old new answer
    ⊎ ResumesGood writes words held after old new answer

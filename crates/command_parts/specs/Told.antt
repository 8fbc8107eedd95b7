-- How a command tells what it did: a text, or the stop that ended it, and the status that is
-- answered.
use Rattle.std.specs.Prelude.{◌≡◌, ◌≢◌, ℕ, List, Result, Ok, Err}
use Rattle.pawn_outside.specs.declared.fault.SinkFault.{SinkFault}
use Rattle.pawn_outside.specs.Rose.{risen}
use Rattle.command_parts.specs.declared.status.Status.{Status}
use Rattle.command_parts.specs.declared.status.Status.TheVariants as status
use Rattle.command_parts.specs.declared.stop.Stop.{Stop}
use Rattle.command_parts.specs.declared.stop.Stop.TheVariants.{FileFault}
use Rattle.command_parts.specs.Stop.{status_of, line_of}

-- whether a text was written
abbrev pub Told : Type 0
Told = Result (Unit {0}) SinkFault

-- how a text is said, from a sink before to the sink behind
abbrev pub Says : Type 0 → Type 1
Says S = S → S → List ℕ → Told → Type 0

-- a sink that fails has a status of its own
abbrev pub status_told : Status → Told → Status
status_told s (Ok done) = s
status_told s (Err fault) = status.SinkFault

-- ---- over files that may fail

-- how a command writes: what is there behind a text, while no call of the files fails, and what is
-- there behind a call of theirs that failed
pub record Writes (S : Type 0) : Type 1 where
  pub says : Says S
  pub failed : S → S

-- a text is said, and the count of faults of the files beside the sink stays as it is
abbrev pub steadily : {S : Type 0} → Says S → Says (S × ℕ)
steadily says = λ old new text told. says old.0 new.0 text told × (new.1 ≡ old.1)

-- so is each text of a command, and a call that failed has raised the count
abbrev pub with_faults : {S : Type 0} → Says S → Writes (S × ℕ)
with_faults says = record { says = steadily says; failed = λ old. (old.0, risen old.1) }

-- ---- a stop

-- its line was written, or a front of it
pub record TellsLine {S : Type 0} (stop : Stop) (says : Says S) (old new : S)
    (answer : Status) : Type 0 where
  pub told : Told
  pub written : says old new (line_of stop) told
  pub is : answer ≡ status_told (status_of stop) told

-- a command told of it: of a fault of the files behind a call of theirs that failed, and of any
-- other stop where none did
pub record TellsStop {S : Type 0} (stop : Stop) (writes : Writes S) (old new : S)
    (answer : Status) : Type 0 where
  pub mid : S
  pub cause : stop ≡ FileFault → mid ≡ writes.failed old
  pub steady : stop ≢ FileFault → mid ≡ old
  pub line : TellsLine stop writes.says mid new answer

-- How a command ends whose trace stops so: its text, its status, and at a sleep its image.
use Rattle.std.specs.Prelude.{◌≡◌, ◌≢◌, ◌++◌, ℕ, List, [], Option, Ok, Err, codes}
use Rattle.pawn_outside.specs.Held.{Held, with_put}
use Rattle.pawn_outside.specs.declared.fault.SinkFault.{SinkFault}
use Rattle.host_script.specs.Text.{end_text}
use Rattle.host_script.specs.declared.event.End.{End}
use Rattle.host_script.specs.declared.event.End.TheVariants as end
use Rattle.amx_ops.specs.Moves.{Config}
use Rattle.amx_ops.specs.Runs.{Stop, Steps, Asleep, Over_by}
use Rattle.host_run.specs.Segments.{lines_of}
use Rattle.amx_image.specs.declared.version.Version.TheVariants.{Live}
use Rattle.amx_image.specs.Image.{IsImage}
use Rattle.command_parts.specs.declared.status.Status.{Status}
use Rattle.command_parts.specs.declared.status.Status.TheVariants as status
use Rattle.command_parts.specs.declared.stop.Stop.{Stop as Cause}
use Rattle.command_parts.specs.Put.{NotPut}
use Rattle.command_parts.specs.Told.{Says, Writes, TellsStop}

-- the line of an end; a sleep has had its own
abbrev pub stop_line : Stop End → List ℕ
stop_line Steps = codes "steps\n"
stop_line Asleep = []
stop_line (Over_by e) = end_text e

-- the lines of what was shown, and behind them that of the end
abbrev pub run_text : Config → Stop End → List ℕ
run_text c stop = lines_of c.events ++ stop_line stop

-- the status of an end; a machine has no stray one
abbrev pub status_of_end : End → Status
status_of_end (end.Done value) = status.Ok
status_of_end (end.Exit value tag) = status.Ok
status_of_end (end.Error code) = status.Ended
status_of_end end.Stray = status.Ended

-- by why the trace stopped
abbrev pub status_of_stop : Stop End → Status
status_of_stop Steps = status.Steps
status_of_stop Asleep = status.Asleep
status_of_stop (Over_by e) = status_of_end e

-- an image is put under a name, or it isn't and a line tells why
pub data Keeps {S : Type 0} (writes : Writes S) (held after : Option Held) (image bytes : List ℕ)
    (old new : S) : Status → Type 0 where
  kept : after ≡ with_put held image bytes → new ≡ old
      → Keeps writes held after image bytes old new status.Asleep
  unkept : (cause : Cause) (answer : Status) → NotPut held after image cause
      → TellsStop cause writes old new answer
      → Keeps writes held after image bytes old new answer

-- the sink fails in the text, and no file is put; or the text is written, and only at a sleep is
-- the image put behind it; `tells` is how the text is written, `writes` the line of a stop
pub data Finishes {S : Type 0} (tells : Says S) (writes : Writes S) (held after : Option Held)
    (image digest : List ℕ) (stop : Stop End) (c : Config)
    (old new : S) : Status → Type 0 where
  cut_off : (fault : SinkFault) → tells old new (run_text c stop) (Err fault) → after ≡ held
      → Finishes tells writes held after image digest stop c old new status.SinkFault
  ended : stop ≢ Asleep → tells old new (run_text c stop) (Ok tt) → after ≡ held
      → Finishes tells writes held after image digest stop c old new (status_of_stop stop)
  asleep : (mid : S) (bytes : List ℕ) (answer : Status) → stop ≡ Asleep
      → tells old mid (run_text c stop) (Ok tt)
      → IsImage Live c.state c.position digest bytes
      → Keeps writes held after image bytes mid new answer
      → Finishes tells writes held after image digest stop c old new answer

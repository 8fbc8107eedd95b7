-- The trace of a machine from where it stands, at the script's first answer, in segments with one
-- bound, and how it is told.
use Rattle.std.specs.Prelude.{◌≡◌, ◌++◌, ℕ, List, replicate}
use Rattle.host_script.specs.declared.script.Script.{Script}
use Rattle.host_script.specs.declared.event.End.{End}
use Rattle.host_script.specs.declared.event.End.TheVariants as end
use Rattle.amx_ops.specs.Moves.{Config, move}
use Rattle.amx_ops.specs.Runs.{Stop, Steps, Asleep, Over_by, Traced, joined}
use Rattle.amx_ops.specs.Trace.{begun}
use Rattle.amx_machine.specs.Machine.{Machine}
use Rattle.host_run.specs.Segments.{lines_of, stop_text}
use Rattle.host_run.specs.declared.end.SessionEnd.{SessionEnd}
use Rattle.host_run.specs.declared.end.SessionEnd.TheVariants as session

-- it goes on behind so many sleeps, with so many steps in each segment
abbrev pub trace_on : Script → Machine → ℕ → ℕ → Traced Config End
trace_on script m steps sleeps =
    joined (move m.amx script) steps (replicate sleeps steps) (begun m.state)

-- the lines of what was shown, and that of an end
abbrev pub told_text : Traced Config End → List ℕ
told_text t = lines_of t.config.events ++ stop_text t.stop

-- why it stopped, as a session answers it; a failing sink tells nothing of it
abbrev pub StopsAs : Stop End → SessionEnd → Type 0
StopsAs stop (session.Done value) = stop ≡ Over_by (end.Done value)
StopsAs stop (session.Exit value tag) = stop ≡ Over_by (end.Exit value tag)
StopsAs stop (session.Error code) = stop ≡ Over_by (end.Error code)
StopsAs stop (session.Asleep value tag) = stop ≡ Asleep
StopsAs stop session.Steps = stop ≡ Steps
StopsAs stop session.SinkFault = Unit {0}

-- Where a run over sleeps leaves its machine and the script's position, and how many steps it did.
use Rattle.std.specs.Prelude.{◌≤◌, ℕ, [], replicate}
use Rattle.host_script.specs.declared.script.Script.{Script}
use Rattle.host_script.specs.declared.event.End.{End}
use Rattle.amx_ops.specs.Moves.{Config, move}
use Rattle.amx_ops.specs.Runs.{Segmented, Traced}
use Rattle.amx_ops.specs.Trace.{begun}
use Rattle.amx_machine.specs.Machine.{Machine}
use Rattle.host_run.specs.Going.{joined_behind}
use Rattle.host_run.specs.Segments.{Place}
use Rattle.host_run.specs.Stands.{Stands}
use Rattle.host_run.specs.Trace.{trace_on}
use Rattle.host_run.specs.declared.end.SessionEnd.{SessionEnd}
use Rattle.host_run.specs.declared.end.SessionEnd.TheVariants as session

-- it begins at the script's first answer
abbrev pub first_place : Machine → Place
first_place m = record { machine = m; position = 0 }

-- machine, position and count are those of a trace
abbrev pub StandsBehind : Machine → Traced Config End → ℕ → Place → Type 0
StandsBehind m t count new =
    let made : Segmented Config End =
    record { stop = t.stop; config = t.config; steps = t.steps } in
    Stands (first_place m) made count new

-- with so many segments of one bound, and a last one
abbrev pub cut_trace : Script → Machine → ℕ → ℕ → ℕ → Traced Config End
cut_trace script m steps slept last =
    joined_behind (move m.amx script) (replicate slept steps) last [] (begun m.state)

-- the sink failed at the last one of some steps behind some sleeps
pub record IsCutShort (script : Script) (m : Machine) (steps sleeps count : ℕ)
    (new : Place) : Type 0 where
  pub slept : ℕ
  pub within : slept ≤ sleeps
  pub last : ℕ
  pub some : 1 ≤ last
  pub below : last ≤ steps
  pub stands : StandsBehind m (cut_trace script m steps slept last) count new

-- by its end, which is the whole trace's unless the sink failed
abbrev pub Leaves : Script → Machine → ℕ → ℕ → ℕ → SessionEnd → Place → Type 0
Leaves script m steps sleeps count (session.Done value) new =
    StandsBehind m (trace_on script m steps sleeps) count new
Leaves script m steps sleeps count (session.Exit value tag) new =
    StandsBehind m (trace_on script m steps sleeps) count new
Leaves script m steps sleeps count (session.Error code) new =
    StandsBehind m (trace_on script m steps sleeps) count new
Leaves script m steps sleeps count (session.Asleep value tag) new =
    StandsBehind m (trace_on script m steps sleeps) count new
Leaves script m steps sleeps count session.Steps new =
    StandsBehind m (trace_on script m steps sleeps) count new
Leaves script m steps sleeps count session.SinkFault new =
    IsCutShort script m steps sleeps count new

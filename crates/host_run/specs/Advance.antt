-- What was done for one event of the machine, as the code tells it.
use Rattle.std.specs.Prelude.{◌≡◌, ◌≤◌, ◌++◌, ℕ, ℤ, pos, List, Option, None, Some, Result, Ok}
use Rattle.std.specs.Prelude.{length}
use Rattle.pawn_outside.specs.declared.fault.SinkFault.{SinkFault}
use Rattle.host_script.specs.declared.script.Script.{Script}
use Rattle.host_script.specs.declared.event.Event.{Event as Shown}
use Rattle.host_script.specs.declared.event.End.{End}
use Rattle.host_script.specs.declared.event.End.TheVariants as end
use Rattle.host_script.specs.Script.{native_of}
use Rattle.amx_ops.specs.declared.amx.Amx.{Amx}
use Rattle.amx_ops.specs.Table.{is_number}
use Rattle.amx_ops.specs.State.{State, Turned, Goes, Errs, Halts, Asks}
use Rattle.amx_ops.specs.Moves.{Config, moved, halted, asked, arguments}
use Rattle.amx_ops.specs.Runs.{Moved, Stop, Steps, Asleep, Over_by}
use Rattle.amx_ops.specs.Runs as run
use Rattle.amx_machine.specs.declared.event.Event.{Event}
use Rattle.amx_machine.specs.declared.event.Event.TheVariants as event
use Rattle.amx_machine.specs.declared.mode.Mode.TheVariants as mode
use Rattle.amx_machine.specs.Machine.{Machine}
use Rattle.amx_machine.specs.Runs.{asleep_or}
use Rattle.host_run.specs.declared.end.SessionEnd.{SessionEnd}
use Rattle.host_run.specs.declared.end.SessionEnd.TheVariants as answer
use Rattle.host_run.specs.declared.guest.Guest.{Guest}
use Rattle.host_run.specs.Segments.{Place, lines_behind, stop_behind}
use Rattle.host_run.specs.Stands.{IsLeft, IsEnded}
use Rattle.host_run.specs.Session.{told}

-- the move after which a segment of one step stops so
abbrev pub made_by : Stop End → Config → Moved Config End
made_by Steps c = run.Goes c
made_by Asleep c = run.Sleeps c
made_by (Over_by e) c = run.Ends e c

-- a session goes on, or is given its end
abbrev pub IsGiven : Stop End → State → Option SessionEnd → Type 0
IsGiven stop s None = stop ≡ Steps
IsGiven stop s (Some (answer.Done value)) = stop ≡ Over_by (end.Done value)
IsGiven stop s (Some (answer.Exit value tag)) = stop ≡ Over_by (end.Exit value tag)
IsGiven stop s (Some (answer.Error code)) = stop ≡ Over_by (end.Error code)
IsGiven stop s (Some (answer.Asleep value tag)) = (stop ≡ Asleep) × (value ≡ s.pri) × (tag ≡ s.alt)
IsGiven stop s (Some answer.Steps) = ⊥
IsGiven stop s (Some answer.SinkFault) = Unit {0}

-- whether the sink failed, also where the session goes on
abbrev pub told_of : Option SessionEnd → Result (Unit {0}) SinkFault
told_of None = Ok tt
told_of (Some given) = told given

-- the move of a machine that showed some events before; `say` is what was done to the sink
pub record Advanced (front : List ℕ) (moves : List Shown → Moved Config End) (new : Place)
    (given : Option SessionEnd) (say : List ℕ → Type 0) : Type 0 where
  pub stop : Stop End
  pub shown : List Shown
  pub moved : (before : List Shown)
      → moves before ≡ made_by stop (record
      { state = new.machine.state; position = new.position; events = before ++ shown })
  pub mode : IsLeft stop new.machine.mode
  pub gives : IsGiven stop new.machine.state given
  pub said : say (lines_behind front shown ++ stop_behind front stop)
  pub some : given ≡ Some answer.SinkFault → 1 ≤ length (lines_behind front shown ++ stop_behind front stop)

-- ---- events

-- the step behind which a machine with an event is in this state
abbrev pub turned_by : Event → State → Turned
turned_by event.Going s = Goes s
turned_by (event.Native number) s = Asks number s
turned_by (event.Halt code pri alt) s = Halts code s
turned_by (event.Error code) s = Errs code

-- the move with that step
abbrev pub move_by : Amx → Script → Event → Place → List Shown → Moved Config End
move_by amx script e p before =
    moved amx script (record { state = p.machine.state; position = p.position; events = before })
    (turned_by e p.machine.state)

-- a machine behind an event
abbrev pub IsBehind : Event → Machine → Type 0
IsBehind event.Going m = m.mode ≡ mode.Running
IsBehind (event.Native number) m = m.mode ≡ mode.Waiting
IsBehind (event.Halt code pri alt) m =
    (pri ≡ m.state.pri) × (alt ≡ m.state.alt) × (m.mode ≡ asleep_or (is_number 12 code) code)
IsBehind (event.Error code) m = m.mode ≡ mode.Failed code

-- ---- ends

-- the end that a halt is, or none of a sleep
abbrev pub EndsBy : ℤ → ℤ → ℤ → Option End → Type 0
EndsBy code pri alt None = code ≡ pos 12
EndsBy code pri alt (Some e) =
    (s : State) (c : Config) → s.pri ≡ pri → s.alt ≡ alt
    → (halted code s c ≡ run.Ends e (record c { state = s }))
    × IsEnded e (asleep_or (is_number 12 code) code)

-- an end that was written, or wasn't
abbrev pub IsOver : End → SessionEnd → Type 0
IsOver e (answer.Done value) = e ≡ end.Done value
IsOver e (answer.Exit value tag) = e ≡ end.Exit value tag
IsOver e (answer.Error code) = e ≡ end.Error code
IsOver e (answer.Asleep value tag) = ⊥
IsOver e answer.Steps = e ≡ end.Stray
IsOver e answer.SinkFault = Unit {0}

-- a sleep that was written, or wasn't
abbrev pub IsSleep : ℤ → ℤ → SessionEnd → Type 0
IsSleep pri alt (answer.Done value) = ⊥
IsSleep pri alt (answer.Exit value tag) = ⊥
IsSleep pri alt (answer.Error code) = ⊥
IsSleep pri alt (answer.Asleep value tag) = (value ≡ pri) × (tag ≡ alt)
IsSleep pri alt answer.Steps = ⊥
IsSleep pri alt answer.SinkFault = Unit {0}

-- ---- natives

-- what a script says of a name
pub record IsGuest (script : Script) (name : List ℕ) (guest : Guest) : Type 0 where
  pub forms : guest.forms.now ≡ (native_of script name).forms
  pub rest : guest.rest ≡ (native_of script name).rest
  pub result : guest.result ≡ (native_of script name).result

-- a call by a name at a place, with some events shown before
abbrev pub call_by : Script → List ℕ → Place → List Shown → Moved Config End
call_by script name p before =
    asked script name (arguments p.machine.state) p.machine.state
    (record { state = p.machine.state; position = p.position; events = before })

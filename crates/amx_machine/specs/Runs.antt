-- Steps of a machine, and what they come to.
use Rattle.std.specs.Prelude.{◌≡◌, ℕ, ℤ, pos, Bool, true, false, ◌==◌, Option, None, Some}
use Rattle.std.specs.Prelude.{if◌then◌else◌}
use Rattle.amx_ops.specs.Table.{is_number}
use Rattle.amx_ops.specs.State.{State}
use Rattle.amx_step.specs.Machine.{Machine as Core}
use Rattle.amx_step.specs.declared.turn.Turn.{Turn}
use Rattle.amx_step.specs.declared.turn.Turn.TheVariants as turn
use Rattle.amx_step.specs.Runs.{runs}
use Rattle.amx_step.specs.Runs as steps
use Rattle.amx_machine.specs.declared.event.Event.{Event}
use Rattle.amx_machine.specs.declared.event.Event.TheVariants as event
use Rattle.amx_machine.specs.declared.mode.Mode.{Mode}
use Rattle.amx_machine.specs.declared.mode.Mode.TheVariants as mode
use Rattle.amx_machine.specs.Machine.{Machine, IsIdle, IsSteady}

-- how many steps were done, their event, and the machine behind them
pub record Ran : Type 0 where
  pub steps : ℕ
  pub event : Event
  pub machine : Machine

-- HALT 12 is a sleep
abbrev pub asleep_or : Bool → ℤ → Mode
asleep_or true code = mode.Asleep
asleep_or false code = mode.Halted code

-- the mode behind what a step did
abbrev pub mode_behind : Turn → Mode
mode_behind turn.Goes = mode.Running
mode_behind (turn.Errs code) = mode.Failed code
mode_behind (turn.Halts code) = asleep_or (is_number 12 code) code
mode_behind (turn.Asks native) = mode.Waiting

-- its event, with the state behind it
abbrev pub event_of : Turn → State → Event
event_of turn.Goes s = event.Going
event_of (turn.Errs code) s = event.Error code
event_of (turn.Halts code) s = event.Halt code s.pri s.alt
event_of (turn.Asks native) s = event.Native native

-- the machine behind it
abbrev pub behind : Turn → Core → Machine
behind t core = record { amx = core.amx; state = core.state; mode = mode_behind t }

-- steps of which the last one did this
abbrev pub ran_by : steps.Ran → Ran
ran_by r =
    record {
      steps = r.steps;
      event = event_of r.turn r.machine.state;
      machine = behind r.turn r.machine;
    }

-- no step
abbrev pub stays : Event → Machine → Ran
stays e m = record { steps = 0; event = e; machine = m }

-- the last event of a machine that ended
abbrev pub last_in : Mode → State → Option Event
last_in mode.Loaded s = None
last_in mode.Running s = None
last_in mode.Asleep s = None
last_in mode.Waiting s = None
last_in (mode.Halted code) s = Some (event.Halt code s.pri s.alt)
last_in (mode.Failed code) s = Some (event.Error code)

-- of this machine, if it ended
abbrev pub last_event : Machine → Option Event
last_event m = last_in m.mode m.state

-- an event again, or else what was run
abbrev pub again_or : Option Event → Ran → Machine → Ran
again_or (Some e) r m = stays e m
again_or None r m = r

-- registers and memory
abbrev pub core_of : Machine → Core
core_of m = record { amx = m.amx; state = m.state }

-- up to so many steps, to the first that doesn't go on; where it ended, its last event again
abbrev pub ran : ℕ → Machine → Ran
ran n m =
    again_or (last_event m) (if n == 0 then stays event.Going m else ran_by (runs n 0 (core_of m)))
    m

-- ---- which calls may follow an event

-- by the mode in which the event left the machine
abbrev pub Follows : Event → Mode → Type 0
Follows event.Going m = IsSteady m
Follows (event.Native native) m = m ≡ mode.Waiting
Follows (event.Halt code pri alt) m = IsSteady m × (code ≡ pos 0 → IsIdle m)
Follows (event.Error code) m = IsSteady m

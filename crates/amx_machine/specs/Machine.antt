-- What contracts see of a machine: its file, its state, and its mode.
use Rattle.std.specs.Prelude.{◌≡◌, ◌≤◌, pos, length}
use Rattle.amx_ops.specs.declared.amx.Amx.{Amx}
use Rattle.amx_ops.specs.State.{State, stp, swept}
use Rattle.amx_ops.specs.Trace.{loaded}
use Rattle.amx_ops.specs.Writable.{memory_limit}
use Rattle.amx_step.specs.Machine.{Machine as Core, cell_count}
use Rattle.amx_step.specs.Hosting.{AreInOrder}
use Rattle.amx_machine.specs.declared.mode.Mode.{Mode}
use Rattle.amx_machine.specs.declared.mode.Mode.TheVariants as mode

-- the mode says which calls may come next
pub record Machine : Type 0 where
  pub amx : Amx
  pub state : State
  pub mode : Mode

-- at a sleep the cells between heap and stack are 0
abbrev pub resting : Mode → State → State
resting mode.Loaded s = s
resting mode.Running s = s
resting mode.Asleep s = swept s
resting mode.Waiting s = s
resting (mode.Halted code) s = s
resting (mode.Failed code) s = s

-- registers and memory in a mode
abbrev pub in_mode : Mode → Core → Machine
in_mode m core = record { amx = core.amx; state = resting m core.state; mode = m }

-- a file's machine before any start
abbrev pub first : Amx → Machine
first amx = record { amx = amx; state = loaded amx amx.room; mode = mode.Loaded }

-- ---- when a call may be made

-- it may be started: it was loaded, or it is done
abbrev pub IsIdle : Mode → Type 0
IsIdle mode.Loaded = Unit {0}
IsIdle mode.Running = ⊥
IsIdle mode.Asleep = ⊥
IsIdle mode.Waiting = ⊥
IsIdle (mode.Halted code) = code ≡ pos 0
IsIdle (mode.Failed code) = ⊥

-- it was started and waits for no native
abbrev pub IsSteady : Mode → Type 0
IsSteady mode.Loaded = ⊥
IsSteady mode.Running = Unit {0}
IsSteady mode.Asleep = Unit {0}
IsSteady mode.Waiting = ⊥
IsSteady (mode.Halted code) = Unit {0}
IsSteady (mode.Failed code) = Unit {0}

-- at a sleep what is dead is 0
abbrev pub IsClean : Mode → State → Type 0
IsClean mode.Loaded s = Unit {0}
IsClean mode.Running s = Unit {0}
IsClean mode.Asleep s = swept s ≡ s
IsClean mode.Waiting s = Unit {0}
IsClean (mode.Halted code) s = Unit {0}
IsClean (mode.Failed code) s = Unit {0}

-- what is always so
pub record IsKept (m : Machine) : Type 0 where
  pub in_order : AreInOrder m.amx m.state
  pub size : stp m.state ≤ memory_limit
  pub count : length m.state.cells ≡ cell_count m.amx
  pub clean : IsClean m.mode m.state

-- Where a machine was before the last of some steps, and what that step was.
use Rattle.std.specs.Prelude.{◌≡◌, ◌+◌, ◌<◌, ℕ, List}
use Rattle.host_script.specs.declared.script.Script.{Script}
use Rattle.host_script.specs.declared.event.Event.{Event as Shown}
use Rattle.amx_ops.specs.declared.amx.Amx.{Amx}
use Rattle.amx_ops.specs.State.{State}
use Rattle.amx_ops.specs.Step.{step}
use Rattle.amx_ops.specs.Moves.{Config, move}
use Rattle.amx_ops.specs.Runs.{segment}
use Rattle.amx_machine.specs.declared.event.Event.{Event}
use Rattle.amx_machine.specs.declared.event.Event.TheVariants as event
use Rattle.amx_machine.specs.Machine.{Machine}
use Rattle.host_run.specs.Advance.{turned_by, IsBehind}

-- a configuration by its parts
abbrev pub placed : State → ℕ → List Shown → Config
placed s position events = record { state = s; position = position; events = events }

-- by the event of so many steps out of a bound, of which some passed before the last one
abbrev pub IsLast : Event → Amx → ℕ → State → ℕ → ℕ → State → Type 0
IsLast event.Going amx bound mid passed count s = (count ≡ passed) × (passed ≡ bound) × (s ≡ mid)
IsLast (event.Native number) amx bound mid passed count s =
    (count ≡ passed + 1) × (passed < bound) × (step amx mid ≡ turned_by (event.Native number) s)
IsLast (event.Halt code pri alt) amx bound mid passed count s =
    (count ≡ passed + 1) × (passed < bound) × (step amx mid ≡ turned_by (event.Halt code pri alt) s)
IsLast (event.Error code) amx bound mid passed count s =
    (count ≡ passed + 1) × (passed < bound) × (step amx mid ≡ turned_by (event.Error code) s)
    × (s ≡ mid)

-- a machine did so many steps up to an event; all before the last were silent, under any script
pub record Reached (bound : ℕ) (old : Machine) (count : ℕ) (e : Event)
    (new : Machine) : Type 0 where
  pub passed : ℕ
  pub mid : State
  pub file : new.amx ≡ old.amx
  pub leads : (script : Script) (k so_far position : ℕ) (events : List Shown)
      → segment (move old.amx script) (passed + k) so_far (placed old.state position events)
      ≡ segment (move old.amx script) k (so_far + passed) (placed mid position events)
  pub last : IsLast e old.amx bound mid passed count new.state
  pub behind : IsBehind e new

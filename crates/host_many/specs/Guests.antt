-- What contracts see of a machine of a host, and when it is one.
use Rattle.std.specs.Prelude.{◌≡◌, ◌≢◌, ◌<◌, ◌^◌, ℕ, zero, suc, ℤ, pos, negsuc, List, length}
use Rattle.host_script.specs.declared.script.Script.{Script}
use Rattle.host_script.specs.Ranges.{IsScript}
use Rattle.amx_ops.specs.declared.amx.Amx.{Amx}
use Rattle.amx_machine.specs.declared.mode.Mode.{Mode}
use Rattle.amx_machine.specs.declared.mode.Mode.TheVariants as mode
use Rattle.amx_machine.specs.Machine.{Machine, first}
use Rattle.host_run.specs.Bound.{Bound, bound_of}
use Rattle.host_many.specs.declared.standing.Standing.{Standing}
use Rattle.host_many.specs.declared.standing.Standing.TheVariants.{Idle, Runs, Over}
use Rattle.host_many.specs.Own.{Guest}

-- HALT 0 is done
abbrev pub standing_at : ℤ → Standing
standing_at (pos zero) = Idle
standing_at (pos (suc n)) = Over
standing_at (negsuc n) = Over

-- by its mode; between two events none waits for a native
abbrev pub standing_of : Mode → Standing
standing_of mode.Loaded = Idle
standing_of mode.Running = Runs
standing_of mode.Asleep = Runs
standing_of mode.Waiting = Over
standing_of (mode.Halted code) = standing_at code
standing_of (mode.Failed code) = Over

-- a machine at a position of a script
abbrev pub guest_of : Machine → Script → ℕ → Guest
guest_of m script position = record {
  amx = m.amx;
  script = script;
  state = m.state;
  position = position;
  standing = standing_of m.mode;
}

-- one that was loaded
abbrev pub new_guest : Amx → Script → Guest
new_guest amx script = guest_of (first amx) script 0

-- its natives are bound to its script
pub record IsGuest (m : Machine) (script : Script) (bound : Bound) : Type 0 where
  pub natives : bound ≡ bound_of script m.amx.natives
  pub ranges : IsScript script
  pub publics : length m.amx.publics < 2 ^ 31

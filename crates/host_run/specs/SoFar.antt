-- A session in the middle: so many steps are done, and their lines are written.
use Rattle.std.specs.Prelude.{◌≡◌, ◌≤◌, ◌+◌, ℕ, List}
use Rattle.host_script.specs.declared.script.Script.{Script}
use Rattle.host_script.specs.declared.event.Event.{Event}
use Rattle.amx_ops.specs.Moves.{move}
use Rattle.amx_ops.specs.Runs.{segment}
use Rattle.amx_machine.specs.declared.mode.Mode.TheVariants as mode
use Rattle.host_run.specs.Segments.{Place, segment_of, lines_behind}
use Rattle.host_run.specs.Stands.{IsAwake}
use Rattle.host_run.specs.Reached.{placed}

-- the rest of the segment is the one from where it is now
pub record SoFar (front : List ℕ) (script : Script) (old : Place) (bound done : ℕ) (now : Place)
    (say : List ℕ → Type 0) : Type 0 where
  pub within : done ≤ bound
  pub file : now.machine.amx ≡ old.machine.amx
  pub awake : IsAwake now.machine.mode
  pub still : done ≡ 0 → now.machine.mode ≡ old.machine.mode
  pub running : 1 ≤ done → now.machine.mode ≡ mode.Running
  pub shown : List Event
  pub said : say (lines_behind front shown)
  pub leads : (k : ℕ) → segment_of script old (done + k)
      ≡ segment (move old.machine.amx script) k done (placed now.machine.state now.position shown)

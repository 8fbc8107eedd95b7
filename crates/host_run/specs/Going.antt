-- A run between two segments: what was shown so far is written, and the trace goes on from there.
use Rattle.std.specs.Prelude.{◌≡◌, ◌≤◌, ◌+◌, ◌++◌, ℕ, List, [], ◌∷◌, replicate}
use Rattle.host_script.specs.declared.script.Script.{Script}
use Rattle.host_script.specs.declared.event.Event.{Event}
use Rattle.host_script.specs.declared.event.End.{End}
use Rattle.amx_ops.specs.Moves.{Config, move}
use Rattle.amx_ops.specs.Runs.{Moved, Traced, behind, joined}
use Rattle.amx_ops.specs.Trace.{begun}
use Rattle.amx_machine.specs.Machine.{Machine}
use Rattle.host_run.specs.Reached.{placed}
use Rattle.host_run.specs.Segments.{Place, lines_of}
use Rattle.host_run.specs.Stands.{IsAwake}
use Rattle.host_run.specs.Trace.{trace_on}

-- the trace from a place on, with some events shown before, behind so many sleeps more
abbrev pub rest_of : Script → Machine → ℕ → ℕ → Place → List Event → Traced Config End
rest_of script old steps left now shown =
    joined (move old.amx script) steps (replicate left steps)
    (placed now.machine.state now.position shown)

-- a trace over some bounds in front of others
abbrev pub joined_behind : (Config → Moved Config End) → List ℕ → ℕ → List ℕ → Config
    → Traced Config End
joined_behind go [] bound bounds c = joined go bound bounds c
joined_behind go (first ∷ front) bound bounds c = joined go first (front ++ bound ∷ bounds) c

-- of a machine that stood so at first, and did so many steps
pub record Going (script : Script) (old : Machine) (steps sleeps left done : ℕ) (now : Place)
    (say : List ℕ → Type 0) : Type 0 where
  pub file : now.machine.amx ≡ old.amx
  pub awake : IsAwake now.machine.mode
  pub still : done ≡ 0 → now.machine.mode ≡ old.mode
  pub some : 1 ≤ done → 1 ≤ steps
  pub shown : List Event
  pub said : say (lines_of shown)
  pub stop : (trace_on script old steps sleeps).stop
      ≡ (rest_of script old steps left now shown).stop
  pub config : (trace_on script old steps sleeps).config
      ≡ (rest_of script old steps left now shown).config
  pub slept : ℕ
  pub slept_is : slept + left ≡ sleeps
  -- whatever bounds follow
  pub leads : (bound : ℕ) (bounds : List ℕ)
      → joined_behind (move old.amx script) (replicate slept steps) bound bounds (begun old.state)
      ≡ behind done (joined (move old.amx script) bound bounds
      (placed now.machine.state now.position shown))

-- Up to so many steps, with so many done before.
use Rattle.std.specs.Prelude.{◌+◌, ℕ, zero, suc}
use Rattle.amx_ops.specs.State.{State, Goes, Errs, Halts, Asks}
use Rattle.amx_ops.specs.Step.{step}
use Rattle.amx_step.specs.Machine.{Machine}
use Rattle.amx_step.specs.declared.turn.Turn.{Turn}
use Rattle.amx_step.specs.declared.turn.Turn.TheVariants as turn

-- the steps that were done, what the last one did, and the machine behind it
pub record Ran : Type 0 where
  pub steps : ℕ
  pub turn : Turn
  pub machine : Machine

-- the same file with other registers and memory
abbrev pub with_state : Machine → State → Machine
with_state m s = record m { state = s }

-- up to the first step that doesn't go on; an error leaves the machine as it was
unfoldable pub runs : (n so_far : ℕ) → Machine → Ran
runs zero so_far m = record { steps = so_far; turn = turn.Goes; machine = m }
runs (suc n) so_far m = elim (step m.amx m.state) [
  | Goes s ↦ runs n (so_far + 1) (with_state m s)
  | Errs e ↦ record { steps = so_far + 1; turn = turn.Errs e; machine = m }
  | Halts v s ↦ record { steps = so_far + 1; turn = turn.Halts v; machine = with_state m s }
  | Asks native s ↦ record { steps = so_far + 1; turn = turn.Asks native; machine = with_state m s }
]

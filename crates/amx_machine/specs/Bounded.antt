-- A run of a bound does at most so many steps, and goes on exactly where each of so many does.
use Rattle.std.specs.Prelude.{◌≡◌, ◌≤◌, ◌↔◌, ℕ, zero, suc, None}
use Rattle.amx_ops.specs.State.{Goes, Errs, Halts, Asks}
use Rattle.amx_ops.specs.Step.{step}
use Rattle.amx_step.specs.Machine.{Machine as Core}
use Rattle.amx_step.specs.Runs.{with_state}
use Rattle.amx_machine.specs.declared.event.Event.TheVariants as event
use Rattle.amx_machine.specs.Machine.{Machine}
use Rattle.amx_machine.specs.Runs.{Ran, core_of, last_event, ran}

-- each of so many steps goes on
abbrev pub GoOn : ℕ → Core → Type 0
GoOn zero m = Unit {0}
GoOn (suc n) m = elim (step m.amx m.state) [
  | Goes s ↦ GoOn n (with_state m s)
  | Errs code ↦ ⊥
  | Halts code s ↦ ⊥
  | Asks native s ↦ ⊥
]

-- by its count and its event
pub record IsBounded (n : ℕ) (m : Machine) (r : Ran) : Type 0 where
  pub within : r.steps ≤ n
  -- of a machine that hasn't ended
  pub going : last_event m ≡ None → (r.event ≡ event.Going) ↔ GoOn n (core_of m)
  pub all : last_event m ≡ None → r.event ≡ event.Going → r.steps ≡ n

-- whatever the bound and the machine
abbrev pub RunsAreBounded : Type 0
RunsAreBounded = (n : ℕ) (m : Machine) → IsBounded n m (ran n m)

-- What a machine does leaves it its file.
use Rattle.std.proofs.Common.{◌≡◌, ◌+◌, ◌==◌, ℕ, zero, suc, ℤ, List, Bool, true, false, Option, None, Some}
use Rattle.std.proofs.Common.{refl, ap}
use Rattle.std.specs.Prelude.{Result, Ok, Err, if◌then◌else◌}
use Rattle.amx_ops.specs.State.{State, Turned, Goes, Errs, Halts, Asks}
use Rattle.amx_ops.specs.Step.{step}
use Rattle.amx_step.specs.Machine.{Machine as Core}
use Rattle.amx_step.specs.Runs.{runs, with_state}
use Rattle.amx_step.specs.Runs as steps
use Rattle.amx_step.specs.declared.turn.Turn.TheVariants as turn
use Rattle.amx_machine.specs.declared.event.Event.{Event}
use Rattle.amx_machine.specs.declared.event.Event.TheVariants as event
use Rattle.amx_machine.specs.declared.start.StartFault.{StartFault}
use Rattle.amx_machine.specs.declared.start.StartFault.TheVariants as fault
use Rattle.amx_machine.specs.Machine.{Machine}
use Rattle.amx_machine.specs.Runs.{Ran, again_or, core_of, last_event, ran, ran_by, stays}
use Rattle.amx_machine.specs.Starts.{StartsSo}

-- ---- runs

abbrev after : ℕ → ℕ → Core → Turned → steps.Ran
after n so_far m (Goes s) = runs n (so_far + 1) (with_state m s)
after n so_far m (Errs e) = record { steps = so_far + 1; turn = turn.Errs e; machine = m }
after n so_far m (Halts v s) =
    record { steps = so_far + 1; turn = turn.Halts v; machine = with_state m s }
after n so_far m (Asks native s) =
    record { steps = so_far + 1; turn = turn.Asks native; machine = with_state m s }

one : (n so_far : ℕ) (m : Core) → runs (suc n) so_far m ≡ after n so_far m (step m.amx m.state)
unfolding runs
one n so_far m = by (step m.amx m.state) where
  by : (t : Turned) → elim t as (λ t. steps.Ran) [
    | Goes s ↦ runs n (so_far + 1) (with_state m s)
    | Errs e ↦ record { steps = so_far + 1; turn = turn.Errs e; machine = m }
    | Halts v s ↦ record { steps = so_far + 1; turn = turn.Halts v; machine = with_state m s }
    | Asks native s ↦ record { steps = so_far + 1; turn = turn.Asks native; machine = with_state m s }
  ] ≡ after n so_far m t
  by (Goes s) = refl
  by (Errs e) = refl
  by (Halts v s) = refl
  by (Asks native s) = refl

after_file : (n so_far : ℕ) (m : Core) (t : Turned)
    → ((s : State) → (runs n (so_far + 1) (with_state m s)).machine.amx ≡ m.amx)
    → (after n so_far m t).machine.amx ≡ m.amx
after_file n so_far m (Goes s) h = h s
after_file n so_far m (Errs e) h = refl
after_file n so_far m (Halts v s) h = refl
after_file n so_far m (Asks native s) h = refl

none_file : (so_far : ℕ) (m : Core) → (runs zero so_far m).machine.amx ≡ m.amx
unfolding runs
none_file so_far m = refl

runs_file : (n so_far : ℕ) (m : Core) → (runs n so_far m).machine.amx ≡ m.amx
runs_file zero so_far m = none_file so_far m
runs_file (suc n) so_far m =
    rw (one n so_far m)
    (after_file n so_far m (step m.amx m.state) (λ s. runs_file n (so_far + 1) (with_state m s)))

again_file : (e : Option Event) (r : Ran) (m : Machine) → r.machine.amx ≡ m.amx
    → (again_or e r m).machine.amx ≡ m.amx
again_file (Some e) r m h = refl
again_file None r m h = h

some_file : (b : Bool) (r : Ran) (m : Machine) → r.machine.amx ≡ m.amx
    → (if b then stays event.Going m else r).machine.amx ≡ m.amx
some_file true r m h = refl
some_file false r m h = h

pub ran_file : (n : ℕ) (m : Machine) → (ran n m).machine.amx ≡ m.amx
ran_file n m =
    again_file (last_event m) (if n == 0 then stays event.Going m else ran_by (runs n 0 (core_of m))) m
    (some_file (n == 0) (ran_by (runs n 0 (core_of m))) m (runs_file n 0 (core_of m)))

-- ---- starts

pub start_file : {T : Type 0} (old : Machine) (entry : ℤ) (cells : List ℤ) (r : Result T StartFault) (new : Machine)
    → StartsSo old entry cells r new → new.amx ≡ old.amx
start_file old entry cells (Ok t) new h = h.1
start_file old entry cells (Err fault.Index) new h = ap (λ (m : Machine). m.amx) h.1
start_file old entry cells (Err fault.Stack) new h = ap (λ (m : Machine). m.amx) h.2

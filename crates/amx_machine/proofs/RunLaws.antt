-- Runs of a machine by the runs of its core.
use Rattle.std.proofs.Common.{◌≡◌, ◌==◌, ℕ, ℤ, pos, None, Some, Bool, true, false, if◌then◌else◌}
use Rattle.std.proofs.Common.{refl, sym, ap, ◌∙◌}
use Rattle.std.proofs.lemmas.Bool.{false≢true}
use Rattle.amx_ops.specs.declared.amx.Amx.{Amx}
use Rattle.amx_ops.specs.Table.{is_number}
use Rattle.amx_ops.specs.State.{State}
use Rattle.amx_step.specs.declared.turn.Turn.{Turn}
use Rattle.amx_step.specs.declared.turn.Turn.TheVariants as turn
use Rattle.amx_step.specs.Runs.{runs}
use Rattle.amx_step.specs.Runs as steps
use Rattle.amx_machine.specs.declared.event.Event.{Event}
use Rattle.amx_machine.specs.declared.event.Event.TheVariants as event
use Rattle.amx_machine.specs.declared.mode.Mode.{Mode}
use Rattle.amx_machine.specs.declared.mode.Mode.TheVariants as mode
use Rattle.amx_machine.specs.Machine.{Machine, resting, IsIdle, IsSteady}
use Rattle.amx_machine.specs.Runs.{Ran, asleep_or, mode_behind, event_of, ran_by, stays, last_event}
use Rattle.amx_machine.specs.Runs.{again_or, core_of, ran, Follows}

-- an idle machine isn't at a sleep
pub idle_rests : (m : Mode) (s : State) → IsIdle m → resting m s ≡ s
idle_rests mode.Loaded s i = refl
idle_rests mode.Running s i = refl
idle_rests mode.Asleep s i = absurd i
idle_rests mode.Waiting s i = refl
idle_rests (mode.Halted code) s i = refl
idle_rests (mode.Failed code) s i = refl

-- ---- what may follow

halt_follows : (b : Bool) (code : ℤ) → is_number 12 code ≡ b
    → IsSteady (asleep_or b code) × (code ≡ pos 0 → IsIdle (asleep_or b code))
halt_follows true code e = (tt, λ zero. absurd (false≢true (ap (is_number 12) (sym zero) ∙ e)))
halt_follows false code e = (tt, λ zero. zero)

turn_follows : (t : Turn) (s : State) → Follows (event_of t s) (mode_behind t)
turn_follows turn.Goes s = tt
turn_follows (turn.Errs code) s = tt
turn_follows (turn.Halts code) s = halt_follows (is_number 12 code) code refl
turn_follows (turn.Asks native) s = refl

again_follows : (amx : Amx) (s : State) (m : Mode) (r : Ran) → IsSteady m
    → Follows r.event r.machine.mode
    → let it : Machine = record { amx = amx; state = s; mode = m } in
    Follows (again_or (last_event it) r it).event (again_or (last_event it) r it).machine.mode
again_follows amx s mode.Loaded r i f = f
again_follows amx s mode.Running r i f = f
again_follows amx s mode.Asleep r i f = f
again_follows amx s mode.Waiting r i f = f
again_follows amx s (mode.Halted code) r i f = (tt, λ zero. zero)
again_follows amx s (mode.Failed code) r i f = tt

bound_follows : (b : Bool) (m : Machine) (r : steps.Ran) → IsSteady m.mode
    → Follows (if b then stays event.Going m else ran_by r).event
    (if b then stays event.Going m else ran_by r).machine.mode
bound_follows true m r i = i
bound_follows false m r i = turn_follows r.turn r.machine.state

pub ran_follows : (n : ℕ) (m : Machine) → IsSteady m.mode
    → Follows (ran n m).event (ran n m).machine.mode
ran_follows n m i =
    again_follows m.amx m.state m.mode
    (if n == 0 then stays event.Going m else ran_by (runs n 0 (core_of m))) i
    (bound_follows (n == 0) m (runs n 0 (core_of m)) i)

-- ---- the three ways of a run

pub ended : (n : ℕ) (m : Machine) (e : Event) → Some e ≡ last_event m → stays e m ≡ ran n m
ended n m e last = rw (← last) refl

pub without_steps : (n : ℕ) (m : Machine) → None ≡ last_event m → n ≡ 0
    → stays event.Going m ≡ ran n m
without_steps n m last none = rw (← last, none) refl

pub with_steps : (n : ℕ) (m : Machine) (r : steps.Ran) → None ≡ last_event m → (n == 0) ≡ false
    → r ≡ runs n 0 (core_of m) → ran_by r ≡ ran n m
with_steps n m r last some e = rw (← last, some) (ap ran_by e)

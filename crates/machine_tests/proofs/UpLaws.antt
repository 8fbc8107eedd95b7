-- What a run of a machine that goes on comes to.
use Rattle.std.proofs.Common.{◌≡◌, ◌==◌, ℕ, zero, suc, ℤ, pos, Bool, true, false, if◌then◌else◌}
use Rattle.std.proofs.Common.{refl, sym, ap, ◌∙◌, subst}
use Rattle.amx_ops.specs.declared.amx.Amx.{Amx}
use Rattle.amx_ops.specs.State.{State}
use Rattle.amx_step.specs.declared.turn.Turn.{Turn}
use Rattle.amx_step.specs.declared.turn.Turn.TheVariants as turn
use Rattle.amx_step.specs.Runs.{runs}
use Rattle.amx_step.specs.Runs as steps
use Rattle.amx_machine.specs.declared.event.Event.{Event}
use Rattle.amx_machine.specs.declared.event.Event.TheVariants as event
use Rattle.amx_machine.specs.declared.mode.Mode.{Mode}
use Rattle.amx_machine.specs.declared.mode.Mode.TheVariants as mode
use Rattle.amx_machine.specs.Machine.{Machine, IsSteady}
use Rattle.amx_machine.specs.Runs.{Ran, mode_behind, event_of, ran_by, stays, core_of, ran}
use Rattle.host_run.specs.Stands.{IsAwake}

pub up_is_steady : (m : Mode) → IsAwake m → IsSteady m
up_is_steady mode.Loaded h = h
up_is_steady mode.Running h = h
up_is_steady mode.Asleep h = h
up_is_steady mode.Waiting h = h
up_is_steady (mode.Halted code) h = absurd h
up_is_steady (mode.Failed code) h = absurd h

-- a step whose event is HALT 12 leaves it asleep
halted : (t : Turn) (r : steps.Ran) (p a : ℤ) → event_of t r.machine.state ≡ event.Halt (pos 12) p a
    → mode_behind t ≡ mode.Asleep
halted turn.Goes r p a e = absurd (let no : ⊥ = cc in no)
halted (turn.Errs code) r p a e = absurd (let no : ⊥ = cc in no)
halted (turn.Halts code) r p a e =
    let twelve : code ≡ pos 12 = cc in ap (λ z. mode_behind (turn.Halts z)) twelve
halted (turn.Asks native) r p a e = absurd (let no : ⊥ = cc in no)

by_bound : (b : Bool) (m : Machine) (r : steps.Ran) (p a : ℤ)
    → (if b then stays event.Going m else ran_by r).event ≡ event.Halt (pos 12) p a
    → (if b then stays event.Going m else ran_by r).machine.mode ≡ mode.Asleep
by_bound true m r p a e = absurd (let no : ⊥ = cc in no)
by_bound false m r p a e = halted r.turn r p a e

by_mode : (n : ℕ) (amx : Amx) (s : State) (d : Mode) → IsAwake d
    → (let m : Machine = record { amx = amx; state = s; mode = d } in ran n m
    ≡ (if n == 0 then stays event.Going m else ran_by (runs n 0 (core_of m))))
by_mode n amx s mode.Loaded h = absurd h
by_mode n amx s mode.Running h = refl
by_mode n amx s mode.Asleep h = refl
by_mode n amx s mode.Waiting h = absurd h
by_mode n amx s (mode.Halted code) h = absurd h
by_mode n amx s (mode.Failed code) h = absurd h

pub asleep_behind : (n : ℕ) (m : Machine) (p a : ℤ) → IsAwake m.mode
    → (ran n m).event ≡ event.Halt (pos 12) p a → (ran n m).machine.mode ≡ mode.Asleep
asleep_behind n m p a h e =
    let same = by_mode n m.amx m.state m.mode h in
    ap (λ (r : Ran). r.machine.mode) same
    ∙ by_bound (n == 0) m (runs n 0 (core_of m)) p a (sym (ap (λ (r : Ran). r.event) same) ∙ e)

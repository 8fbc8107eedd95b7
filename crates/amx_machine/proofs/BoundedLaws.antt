-- Runs count their steps, and go on where each step does.
use Rattle.std.proofs.Common.{◌≡◌, ◌≤◌, ◌+◌, ◌==◌, ℕ, zero, suc, Option, None, Some, refl}
use Rattle.std.proofs.Common.{Bool, true, false, if◌then◌else◌, sym, subst, true-eqb, arith}
use Rattle.amx_ops.specs.State.{State, Turned, Goes, Errs, Halts, Asks}
use Rattle.amx_ops.specs.Step.{step}
use Rattle.amx_step.specs.Machine.{Machine as Core}
use Rattle.amx_step.specs.declared.turn.Turn.{Turn}
use Rattle.amx_step.specs.declared.turn.Turn.TheVariants as turn
use Rattle.amx_step.specs.Runs.{runs, with_state}
use Rattle.amx_step.specs.Runs as steps
use Rattle.amx_machine.specs.declared.event.Event.{Event}
use Rattle.amx_machine.specs.declared.event.Event.TheVariants as event
use Rattle.amx_machine.specs.Bounded.{GoOn, IsBounded, RunsAreBounded}
use Rattle.amx_machine.specs.Machine.{Machine}
use Rattle.amx_machine.specs.Runs.{again_or, core_of, event_of, last_event, ran, ran_by, stays}

-- ---- steps of the core

record Facts (n so_far : ℕ) (r : steps.Ran) (G : Type 0) : Type 0 where
  within : r.steps ≤ so_far + n
  all : r.turn ≡ turn.Goes → r.steps ≡ so_far + n
  to : r.turn ≡ turn.Goes → G
  from : G → r.turn ≡ turn.Goes

abbrev after : ℕ → ℕ → Core → Turned → steps.Ran
after n so_far m t = elim t [
  | Goes s ↦ runs n (so_far + 1) (with_state m s)
  | Errs e ↦ record { steps = so_far + 1; turn = turn.Errs e; machine = m }
  | Halts v s ↦ record { steps = so_far + 1; turn = turn.Halts v; machine = with_state m s }
  | Asks native s ↦ record { steps = so_far + 1; turn = turn.Asks native; machine = with_state m s }
]

abbrev more : ℕ → Core → Turned → Type 0
more n m t = elim t [
  | Goes s ↦ GoOn n (with_state m s)
  | Errs code ↦ ⊥
  | Halts code s ↦ ⊥
  | Asks native s ↦ ⊥
]

by_turn : (n so_far : ℕ) (m : Core) (t : Turned)
    → ((s : State) → Facts n (so_far + 1) (runs n (so_far + 1) (with_state m s))
    (GoOn n (with_state m s)))
    → Facts (suc n) so_far (after n so_far m t) (more n m t)
by_turn n so_far m (Goes s) rest = let p = rest s in record {
  within = let h = p.within in omega (arith, h);
  all = λ e. let h = p.all e in omega (arith, h);
  to = p.to;
  from = p.from;
}
by_turn n so_far m (Errs code) rest = record {
  within = omega arith;
  all = λ e. absurd (cc e);
  to = λ e. absurd (cc e);
  from = λ none. absurd none;
}
by_turn n so_far m (Halts code s) rest = record {
  within = omega arith;
  all = λ e. absurd (cc e);
  to = λ e. absurd (cc e);
  from = λ none. absurd none;
}
by_turn n so_far m (Asks native s) rest = record {
  within = omega arith;
  all = λ e. absurd (cc e);
  to = λ e. absurd (cc e);
  from = λ none. absurd none;
}

facts : (n so_far : ℕ) (m : Core) → Facts n so_far (runs n so_far m) (GoOn n m)
unfolding runs
facts zero so_far m = record {
  within = omega arith;
  all = λ e. omega arith;
  to = λ e. tt;
  from = λ g. refl;
}
facts (suc n) so_far m =
    by_turn n so_far m (step m.amx m.state) (λ s. facts n (so_far + 1) (with_state m s))

-- ---- events

goes_by : (t : Turn) (s : State) → event_of t s ≡ event.Going → t ≡ turn.Goes
goes_by turn.Goes s e = refl
goes_by (turn.Errs code) s e = absurd (cc e)
goes_by (turn.Halts code) s e = absurd (cc e)
goes_by (turn.Asks native) s e = absurd (cc e)

going_by : (t : Turn) (s : State) → t ≡ turn.Goes → event_of t s ≡ event.Going
going_by t s e = rw e refl

-- ---- the machine

ended_bounded : (n : ℕ) (m : Machine) (e : Event) → Some e ≡ last_event m
    → IsBounded n m (stays e m)
ended_bounded n m e last = record {
  within = omega arith;
  going = λ none. absurd (cc (last, none));
  all = λ none. absurd (cc (last, none));
}

none_bounded : (m : Machine) → IsBounded 0 m (stays event.Going m)
none_bounded m = record {
  within = omega arith;
  going = λ none. (λ e. tt, λ g. refl);
  all = λ none e. refl;
}

steps_bounded : (n : ℕ) (m : Machine) → IsBounded n m (ran_by (runs n 0 (core_of m)))
steps_bounded n m =
    let r = runs n 0 (core_of m) in
    let f = facts n 0 (core_of m) in
    record {
      within = let h = f.within in omega (arith, h);
      going = λ none. (
        λ e. f.to (goes_by r.turn r.machine.state e),
        λ g. going_by r.turn r.machine.state (f.from g),
      );
      all = λ none e. let h = f.all (goes_by r.turn r.machine.state e) in omega (arith, h);
    }

by_bound : (n : ℕ) (m : Machine) (b : Bool) → b ≡ (n == 0)
    → IsBounded n m (if b then stays event.Going m else ran_by (runs n 0 (core_of m)))
by_bound n m true e =
    subst (λ k. IsBounded k m (stays event.Going m)) (sym (true-eqb n 0 e)) (none_bounded m)
by_bound n m false e = steps_bounded n m

by_last : (n : ℕ) (m : Machine) (last : Option Event) → last ≡ last_event m
    → IsBounded n m (again_or last (if n == 0 then stays event.Going m
    else ran_by (runs n 0 (core_of m))) m)
by_last n m (Some e) is = ended_bounded n m e is
by_last n m None is = by_bound n m (n == 0) refl

pub runs_bounded : RunsAreBounded
runs_bounded n m = by_last n m (last_event m) refl

-- Steps that a machine counted are moves of its segments.
use Rattle.std.proofs.Common.{◌≡◌, ◌+◌, ◌-◌, ◌<◌, ◌≤◌, ◌==◌, ℕ, zero, suc, false, List, None, refl, sym}
use Rattle.std.proofs.Common.{ap, ap₂, subst, ◌∙◌, arith}
use Rattle.std.specs.Prelude.{if◌then◌else◌}
use Rattle.std.proofs.lemmas.Bool.{ne_eqb}
use Rattle.host_script.specs.declared.script.Script.{Script}
use Rattle.host_script.specs.declared.event.Event.{Event as Shown}
use Rattle.amx_ops.specs.declared.amx.Amx.{Amx}
use Rattle.amx_ops.specs.State.{State, Turned, Goes, Errs, Halts, Asks}
use Rattle.amx_ops.specs.Step.{step}
use Rattle.amx_ops.specs.Moves.{move, moved}
use Rattle.amx_ops.specs.Runs.{segment}
use Rattle.amx_ops.proofs.RunLaws.{segment-goes}
use Rattle.amx_step.specs.Machine.{Machine as Core}
use Rattle.amx_step.specs.declared.turn.Turn.{Turn}
use Rattle.amx_step.specs.declared.turn.Turn.TheVariants as turn
use Rattle.amx_step.specs.Runs.{Ran, runs, with_state}
use Rattle.amx_machine.specs.declared.event.Event.{Event}
use Rattle.amx_machine.specs.declared.mode.Mode.{Mode}
use Rattle.amx_machine.specs.declared.mode.Mode.TheVariants as mode
use Rattle.amx_machine.specs.declared.event.Event.TheVariants as event
use Rattle.amx_machine.specs.Machine.{Machine}
use Rattle.amx_machine.specs.Runs.{ran, ran_by, core_of}
use Rattle.amx_machine.specs.Runs as machine
use Rattle.amx_machine.proofs.CleanLaws.{after, one, none}
use Rattle.host_run.specs.Stands.{IsAwake}
use Rattle.host_run.specs.Advance.{IsBehind}
use Rattle.host_run.specs.Reached.{placed, IsLast, Reached}

-- by what the last step did
abbrev IsLastTurn : Turn → Amx → ℕ → State → ℕ → ℕ → State → Type 0
IsLastTurn turn.Goes amx bound mid passed count s = (count ≡ passed) × (passed ≡ bound) × (s ≡ mid)
IsLastTurn (turn.Errs code) amx bound mid passed count s =
    (count ≡ passed + 1) × (passed < bound) × (step amx mid ≡ Errs code) × (s ≡ mid)
IsLastTurn (turn.Halts code) amx bound mid passed count s =
    (count ≡ passed + 1) × (passed < bound) × (step amx mid ≡ Halts code s)
IsLastTurn (turn.Asks native) amx bound mid passed count s =
    (count ≡ passed + 1) × (passed < bound) × (step amx mid ≡ Asks native s)

record Passes (bound so_far : ℕ) (m : Core) (r : Ran) : Type 0 where
  passed : ℕ
  count : ℕ
  mid : State
  steps : r.steps ≡ so_far + count
  file : r.machine.amx ≡ m.amx
  leads : (script : Script) (k so position : ℕ) (events : List Shown)
      → segment (move m.amx script) (passed + k) so (placed m.state position events)
      ≡ segment (move m.amx script) k (so + passed) (placed mid position events)
  last : IsLastTurn r.turn m.amx bound mid passed count r.machine.state

nothing : (m : Core) (script : Script) (k so position : ℕ) (events : List Shown)
    → segment (move m.amx script) (0 + k) so (placed m.state position events)
    ≡ segment (move m.amx script) k (so + 0) (placed m.state position events)
nothing m script k so position events =
    let a : 0 + k ≡ k = omega arith in
    let b : so ≡ so + 0 = omega arith in
    ap₂ (λ n i. segment (move m.amx script) n i (placed m.state position events)) a b

goes_on : (m : Core) (s : State) (script : Script) (k so position passed : ℕ) (mid : State)
    (events : List Shown) → step m.amx m.state ≡ Goes s
    → ((k so position : ℕ) (events : List Shown)
    → segment (move m.amx script) (passed + k) so (placed s position events)
    ≡ segment (move m.amx script) k (so + passed) (placed mid position events))
    → segment (move m.amx script) ((1 + passed) + k) so (placed m.state position events)
    ≡ segment (move m.amx script) k (so + (1 + passed)) (placed mid position events)
goes_on m s script k so position passed mid events e rest =
    let a : (1 + passed) + k ≡ suc (passed + k) = omega arith in
    let b : (so + 1) + passed ≡ so + (1 + passed) = omega arith in
    ap (λ n. segment (move m.amx script) n so (placed m.state position events)) a
    ∙ segment-goes (move m.amx script) (passed + k) so (placed m.state position events)
    (placed s position events) (ap (moved m.amx script (placed m.state position events)) e)
    ∙ rest k (so + 1) position events
    ∙ ap (λ i. segment (move m.amx script) k i (placed mid position events)) b

one_more : (t : Turn) (amx : Amx) (bound : ℕ) (mid : State) (passed count : ℕ) (s : State)
    → IsLastTurn t amx bound mid passed count s
    → IsLastTurn t amx (suc bound) mid (1 + passed) (1 + count) s
one_more turn.Goes amx bound mid passed count s h = (omega (arith, h.0), omega (arith, h.1), h.2)
one_more (turn.Errs code) amx bound mid passed count s h =
    (omega (arith, h.0), omega (arith, h.1), h.2, h.3)
one_more (turn.Halts code) amx bound mid passed count s h =
    (omega (arith, h.0), omega (arith, h.1), h.2)
one_more (turn.Asks native) amx bound mid passed count s h =
    (omega (arith, h.0), omega (arith, h.1), h.2)

-- its first step was the last
at_first : (n so_far : ℕ) (m : Core) (r : Ran) → r.steps ≡ so_far + 1 → r.machine.amx ≡ m.amx
    → IsLastTurn r.turn m.amx (suc n) m.state 0 1 r.machine.state → Passes (suc n) so_far m r
at_first n so_far m r steps file last = record {
  passed = 0;
  count = 1;
  mid = m.state;
  steps = steps;
  file = file;
  leads = nothing m;
  last = last;
}

by_turn : (n so_far : ℕ) (m : Core) (t : Turned) → step m.amx m.state ≡ t
    → ((s : State) → Passes n (so_far + 1) (with_state m s) (runs n (so_far + 1) (with_state m s)))
    → Passes (suc n) so_far m (after n so_far m t)
by_turn n so_far m (Goes s) e rest = let p = rest s in record {
  passed = 1 + p.passed;
  count = 1 + p.count;
  mid = p.mid;
  steps = omega (arith, p.steps);
  file = p.file;
  leads =
      λ script k so position events. goes_on m s script k so position p.passed p.mid events e
      (p.leads script);
  last = one_more _ m.amx n p.mid p.passed p.count _ p.last;
}
by_turn n so_far m (Errs code) e rest =
    at_first n so_far m _ refl refl (omega arith, omega arith, e, refl)
by_turn n so_far m (Halts code s) e rest =
    at_first n so_far m _ refl refl (omega arith, omega arith, e)
by_turn n so_far m (Asks native s) e rest =
    at_first n so_far m _ refl refl (omega arith, omega arith, e)

passes : (n so_far : ℕ) (m : Core) → Passes n so_far m (runs n so_far m)
passes zero so_far m = subst (Passes zero so_far m) (sym (none so_far m)) (record {
  passed = 0;
  count = 0;
  mid = m.state;
  steps = omega arith;
  file = refl;
  leads = nothing m;
  last = (refl, refl, refl);
})
passes (suc n) so_far m =
    subst (Passes (suc n) so_far m) (sym (one n so_far m))
    (by_turn n so_far m (step m.amx m.state) refl (λ s. passes n (so_far + 1) (with_state m s)))

-- ---- a machine that is awake

none_ended : (d : Mode) (s : State) → IsAwake d → machine.last_in d s ≡ None
none_ended mode.Loaded s h = absurd h
none_ended mode.Running s h = refl
none_ended mode.Asleep s h = refl
none_ended mode.Waiting s h = absurd h
none_ended (mode.Halted code) s h = absurd h
none_ended (mode.Failed code) s h = absurd h

some_steps : (n : ℕ) → 1 ≤ n → (n == 0) ≡ false
some_steps n h = ne_eqb n 0 (λ e. absurd (omega (arith, e, h)))

awake_ran : (n : ℕ) (m : Machine) → IsAwake m.mode → 1 ≤ n → ran n m ≡ ran_by (runs n 0 (core_of m))
awake_ran n m h some =
    ap (λ o. machine.again_or o (if n == 0 then machine.stays event.Going m
    else ran_by (runs n 0 (core_of m))) m) (none_ended m.mode m.state h)
    ∙ ap (λ b. if b then machine.stays event.Going m else ran_by (runs n 0 (core_of m)))
    (some_steps n some)

last_by : (t : Turn) (amx : Amx) (bound : ℕ) (mid : State) (passed count steps : ℕ) (s : State)
    → steps ≡ 0 + count → IsLastTurn t amx bound mid passed count s
    → IsLast (machine.event_of t s) amx bound mid passed steps s
last_by turn.Goes amx bound mid passed count steps s e h = (omega (arith, e, h.0), h.1, h.2)
last_by (turn.Errs code) amx bound mid passed count steps s e h =
    (omega (arith, e, h.0), h.1, h.2, h.3)
last_by (turn.Halts code) amx bound mid passed count steps s e h = (omega (arith, e, h.0), h.1, h.2)
last_by (turn.Asks native) amx bound mid passed count steps s e h =
    (omega (arith, e, h.0), h.1, h.2)

behind_by : (t : Turn) (core : Core)
    → IsBehind (machine.event_of t core.state) (machine.behind t core)
behind_by turn.Goes core = refl
behind_by (turn.Errs code) core = refl
behind_by (turn.Halts code) core = (refl, refl, refl)
behind_by (turn.Asks native) core = refl

reached_by : (n : ℕ) (old : Machine) (steps : ℕ) (t : Turn) (core : Core)
    → Passes n 0 (core_of old) (record { steps = steps; turn = t; machine = core })
    → Reached n old steps (machine.event_of t core.state) (machine.behind t core)
reached_by n old steps t core p = record {
  passed = p.passed;
  mid = p.mid;
  file = p.file;
  leads = p.leads;
  last = last_by t old.amx n p.mid p.passed p.count steps core.state p.steps p.last;
  behind = behind_by t core;
}

-- what a run of one step or more gives
pub reached : (n : ℕ) (old new : Machine) (count : ℕ) (e : Event) → IsAwake old.mode → 1 ≤ n
    → record { steps = count; event = e; machine = new } ≡ ran n old → Reached n old count e new
reached n old new count e h some is =
    let r = runs n 0 (core_of old) in
    let all : record { steps = count; event = e; machine = new } ≡ ran_by r =
    is ∙ awake_ran n old h some in
    subst (λ (it : machine.Ran). Reached n old it.steps it.event it.machine) (sym all)
    (reached_by n old r.steps r.turn r.machine (passes n 0 (core_of old)))

-- where so many of them are done
pub reached_more : (bound done : ℕ) (old new : Machine) (count : ℕ) (e : Event) → done < bound
    → IsAwake old.mode → record { steps = count; event = e; machine = new } ≡ ran (bound - done) old
    → Reached (bound - done) old count e new
reached_more bound done old new count e less h is =
    reached (bound - done) old new count e h (omega (arith, less)) is

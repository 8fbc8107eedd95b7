-- A run that ends asleep leaves zeros between heap and stack.
use Rattle.std.proofs.Common.{◌≡◌, ◌+◌, ◌-◌, ◌/◌, ◌≤◌, ◌++◌, ℕ, zero, suc, ℤ, pos, Bool, true}
use Rattle.std.proofs.Common.{false, List, length, take, drop, replicate, refl, sym, ap, ap₂, subst}
use Rattle.std.proofs.Common.{◌∙◌, arith, length-append, length-drop}
use Rattle.std.proofs.lemmas.List.{length-take, length-replicate, take_at, drop_at, append_assoc}
use Rattle.amx_ops.specs.declared.amx.Amx.{Amx}
use Rattle.amx_ops.specs.Table.{is_number}
use Rattle.amx_ops.specs.State.{State, Turned, Goes, Errs, Halts, Asks, swept}
use Rattle.amx_ops.specs.Effects.{swept_if}
use Rattle.amx_ops.specs.Step.{step}
use Rattle.amx_step.specs.Machine.{Machine as Core}
use Rattle.amx_step.specs.Hosting.{AreInOrder}
use Rattle.amx_step.specs.declared.turn.Turn.{Turn}
use Rattle.amx_step.specs.declared.turn.Turn.TheVariants as turn
use Rattle.amx_step.specs.Runs.{Ran, runs, with_state}
use Rattle.amx_machine.specs.declared.mode.Mode.{Mode}
use Rattle.amx_machine.specs.declared.mode.Mode.TheVariants as mode
use Rattle.amx_machine.specs.Machine.{resting, IsClean}
use Rattle.amx_machine.specs.Runs.{asleep_or, mode_behind}
use Rattle.amx_machine.proofs.HaltLaws.{IsHalted, Sweeps, step_sweeps}

-- ---- one step more

abbrev pub after : ℕ → ℕ → Core → Turned → Ran
after n so_far m t = elim t [
  | Goes s ↦ runs n (so_far + 1) (with_state m s)
  | Errs e ↦ record { steps = so_far + 1; turn = turn.Errs e; machine = m }
  | Halts v s ↦ record { steps = so_far + 1; turn = turn.Halts v; machine = with_state m s }
  | Asks native s ↦ record { steps = so_far + 1; turn = turn.Asks native; machine = with_state m s }
]

pub one : (n so_far : ℕ) (m : Core) → runs (suc n) so_far m ≡ after n so_far m (step m.amx m.state)
unfolding runs
one n so_far m = refl

pub none : (so_far : ℕ) (m : Core)
    → runs zero so_far m ≡ record { steps = so_far; turn = turn.Goes; machine = m }
unfolding runs
none so_far m = refl

-- ---- the last step

abbrev SweptIn : Turn → State → Type 0
SweptIn turn.Goes s = Unit {0}
SweptIn (turn.Errs code) s = Unit {0}
SweptIn (turn.Halts code) s = IsHalted code s
SweptIn (turn.Asks native) s = Unit {0}

abbrev HasSwept : Ran → Type 0
HasSwept r = SweptIn r.turn r.machine.state

by_turn : (n so_far : ℕ) (m : Core) (t : Turned) → Sweeps t
    → ((s : State) → HasSwept (runs n (so_far + 1) (with_state m s)))
    → HasSwept (after n so_far m t)
by_turn n so_far m (Goes s) h rest = rest s
by_turn n so_far m (Errs code) h rest = tt
by_turn n so_far m (Halts code s) h rest = h.by
by_turn n so_far m (Asks native s) h rest = tt

has_swept : (n so_far : ℕ) (m : Core) → HasSwept (runs n so_far m)
has_swept zero so_far m = subst HasSwept (sym (none so_far m)) tt
has_swept (suc n) so_far m =
    subst HasSwept (sym (one n so_far m))
    (by_turn n so_far m (step m.amx m.state) (step_sweeps m.amx m.state)
    (λ s. has_swept n (so_far + 1) (with_state m s)))

-- ---- to sweep twice is to sweep once

-- where the part below the heap lies within the cells
module _ (h k : ℕ) (xs : List ℤ) (low : h ≤ k) (high : h ≤ length xs) where
  abbrev zeros : List ℤ
  zeros = replicate (k - h) (pos 0)

  front : length (take h xs) ≡ h
  front = omega (arith, high, length-take h xs)

  both : length (take h xs ++ zeros) ≡ k
  both =
      omega (arith, low, front, length-append (take h xs) zeros, length-replicate (k - h) (pos 0))

  swept_once : (let ys = take h xs ++ (zeros ++ drop k xs) in take h ys
      ++ (zeros ++ drop k ys) ≡ ys)
  swept_once =
      let ys = take h xs ++ (zeros ++ drop k xs) in
      let below : take h ys ≡ take h xs = take_at (take h xs) (zeros ++ drop k xs) h front in
      let above : drop k ys ≡ drop k xs =
      ap (drop k) (sym (append_assoc (take h xs) zeros (drop k xs)))
      ∙ drop_at (take h xs ++ zeros) (drop k xs) k both in
      ap₂ (λ a b. a ++ (zeros ++ b)) below above

-- the order of what was left tells that it does
within : (h k n : ℕ) (xs : List ℤ)
    → n ≡ length (take h xs ++ (replicate (k - h) (pos 0) ++ drop k xs)) → h ≤ k → k ≤ n
    → h ≤ length xs
within h k n xs e low high =
    omega (
      arith,
      length-append (take h xs) (replicate (k - h) (pos 0) ++ drop k xs),
      length-append (replicate (k - h) (pos 0)) (drop k xs),
      length-take h xs,
      length-replicate (k - h) (pos 0),
      length-drop k xs,
    )

halted_clean : (amx : Amx) (b : Bool) (code : ℤ) (u s : State)
    → s ≡ record (swept_if b u) { cip = s.cip } → AreInOrder amx s → IsClean (asleep_or b code) s
halted_clean amx true code u s e o =
    let hea : s.hea ≡ u.hea = ap (λ t. t.hea) e in
    let stk : s.stk ≡ u.stk = ap (λ t. t.stk) e in
    let size = ap (λ t. length t.cells) e in
    let low : u.hea / 4 ≤ u.stk / 4 = omega (arith, hea, stk, o.order.1) in
    let top : u.stk / 4 ≤ length s.cells = omega (arith, stk, o.order.2) in
    subst (λ t. swept t ≡ t) (sym e)
    (ap (λ cells. record (swept u) { cip = s.cip; cells = cells })
    (swept_once (u.hea / 4) (u.stk / 4) u.cells low
    (within (u.hea / 4) (u.stk / 4) (length s.cells) u.cells size low top)))
halted_clean amx false code u s e o = tt

clean_by : (amx : Amx) (t : Turn) (s : State) → SweptIn t s → AreInOrder amx s
    → IsClean (mode_behind t) s
clean_by amx turn.Goes s h o = tt
clean_by amx (turn.Errs code) s h o = tt
clean_by amx (turn.Halts code) s h o = halted_clean amx (is_number 12 code) code h.0 s h.1 o
clean_by amx (turn.Asks native) s h o = tt

-- behind a run
pub clean_behind : (n : ℕ) (m new : Core) (steps : ℕ) (t : Turn)
    → record { steps = steps; turn = t; machine = new } ≡ runs n 0 m
    → AreInOrder new.amx new.state → IsClean (mode_behind t) new.state
clean_behind n m new steps t e o =
    clean_by new.amx t new.state (subst HasSwept (sym e) (has_swept n 0 m)) o

-- then it is seen as it is
pub rests : (m : Mode) (s : State) → IsClean m s → resting m s ≡ s
rests mode.Loaded s h = refl
rests mode.Running s h = refl
rests mode.Asleep s h = h
rests mode.Waiting s h = refl
rests (mode.Halted code) s h = refl
rests (mode.Failed code) s h = refl

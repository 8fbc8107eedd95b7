-- Steps, one after the other.
use Rattle.std.proofs.Common.{◌≡◌, ◌+◌, ◌-◌, ◌<◌, ◌≤◌, ℕ, suc, ℤ, refl, sym, ap, ◌∙◌, arith}
use Rattle.amx_ops.specs.State.{Turned, Goes, Errs, Halts, Asks}
use Rattle.amx_ops.specs.Step.{step}
use Rattle.amx_step.specs.Machine.{Machine}
use Rattle.amx_step.specs.Turns.{IsTurn}
use Rattle.amx_step.specs.declared.turn.Turn.TheVariants as turn
use Rattle.amx_step.specs.Runs.{Ran, runs, with_state}

abbrev after : ℕ → ℕ → Machine → Turned → Ran
after n so_far m t = elim t [
  | Goes s ↦ runs n (so_far + 1) (with_state m s)
  | Errs e ↦ record { steps = so_far + 1; turn = turn.Errs e; machine = m }
  | Halts v s ↦ record { steps = so_far + 1; turn = turn.Halts v; machine = with_state m s }
  | Asks native s ↦ record { steps = so_far + 1; turn = turn.Asks native; machine = with_state m s }
]

one : (n so_far : ℕ) (m : Machine) → runs (suc n) so_far m ≡ after n so_far m (step m.amx m.state)
unfolding runs
one n so_far m = refl

kept : (old new : Machine) → new.amx ≡ old.amx → with_state old new.state ≡ new
kept old new e = ap (λ amx. record { amx = amx; state = new.state }) (sym e)

pub none_left : (n i : ℕ) (m : Machine) (whole : Ran) → n ≤ i → i ≤ n → runs (n - i) i m ≡ whole
    → record { steps = n; turn = turn.Goes; machine = m } ≡ whole
unfolding runs
none_left n i m whole h l so_far =
    let z : n - i ≡ 0 = omega (arith, h) in
    let e : n ≡ i = omega (arith, h, l) in
    ap (λ s. record { steps = s; turn = turn.Goes; machine = m }) e ∙ sym (ap (λ k. runs k i m) z)
    ∙ so_far

module _ (n i : ℕ) (m new : Machine) (whole : Ran) (h : i < n)
    (so_far : runs (n - i) i m ≡ whole) where
  left : n - i ≡ suc (n - (i + 1))
  left = omega (arith, h)

  next : (t : Turned) → step m.amx m.state ≡ t → after (n - (i + 1)) i m t ≡ whole
  next t e =
      ap (after (n - (i + 1)) i m) (sym e) ∙ sym (one (n - (i + 1)) i m)
      ∙ sym (ap (λ k. runs k i m) left) ∙ so_far

  pub goes : IsTurn (step m.amx m.state) m turn.Goes new → runs (n - (i + 1)) (i + 1) new ≡ whole
  goes t = ap (runs (n - (i + 1)) (i + 1)) (sym (kept m new t.1)) ∙ next (Goes new.state) t.0

  pub errs : (e : ℤ) → IsTurn (step m.amx m.state) m (turn.Errs e) new
      → record { steps = i + 1; turn = turn.Errs e; machine = new } ≡ whole
  errs e t =
      ap (λ x. record { steps = i + 1; turn = turn.Errs e; machine = x }) t.1 ∙ next (Errs e) t.0

  pub halts : (v : ℤ) → IsTurn (step m.amx m.state) m (turn.Halts v) new
      → record { steps = i + 1; turn = turn.Halts v; machine = new } ≡ whole
  halts v t =
      ap (λ x. record { steps = i + 1; turn = turn.Halts v; machine = x }) (sym (kept m new t.1))
      ∙ next (Halts v new.state) t.0

  pub asks : (native : ℕ) → IsTurn (step m.amx m.state) m (turn.Asks native) new
      → record { steps = i + 1; turn = turn.Asks native; machine = new } ≡ whole
  asks native t =
      ap (λ x. record { steps = i + 1; turn = turn.Asks native; machine = x })
      (sym (kept m new t.1)) ∙ next (Asks native new.state) t.0

-- A segment leaves as many cells as there were, and takes a step before it falls asleep.
use Rattle.std.proofs.Common.{◌≡◌, ◌+◌, ◌≤◌, ℕ, zero, suc, ℤ, [], Bool, true, false, length}
use Rattle.std.proofs.Common.{refl, sym, ◌∙◌, subst, arith}
use Rattle.host_script.specs.declared.script.Script.{Script}
use Rattle.host_script.specs.declared.event.End.{End}
use Rattle.host_script.specs.Ranges.{IsScript}
use Rattle.amx_ops.specs.declared.amx.Amx.{Amx}
use Rattle.amx_ops.specs.Keeps.{IsRunnable, reached}
use Rattle.amx_ops.specs.Table.{is_number}
use Rattle.amx_ops.specs.State as state
use Rattle.amx_ops.specs.State.{State, Turned}
use Rattle.amx_ops.specs.States.{IsState}
use Rattle.amx_ops.specs.Step.{step}
use Rattle.amx_ops.specs.Moves.{Config, move, moved, arguments, halted_by, name_of}
use Rattle.amx_ops.specs.Runs.{Moved, Goes, Sleeps, Ends, Asleep, Segmented, segment}
use Rattle.amx_ops.proofs.KeepsLaws.{keeps_states}
use Rattle.amx_ops.proofs.RunLaws.{segment-zero, segment-goes, segment-sleeps, segment-ends}
use Rattle.amx_ops.proofs.NativeSizes.{asked_sized}
use Rattle.run_laws.proofs.StepLaws.{Sized, step_sized, IsHalting}

-- ---- moves

halted_sized : (v : ℤ) (a b d : Bool) (s : State) (c : Config)
    → length (reached (halted_by v a b d s c)).state.cells ≡ length s.cells
halted_sized v true b d s c = refl
halted_sized v false true d s c = refl
halted_sized v false false true s c = refl
halted_sized v false false false s c = refl

moved_sized : (amx : Amx) (script : Script) (c : Config) (t : Turned)
    → Sized (length c.state.cells) (IsHalting amx c.state) t
    → length (reached (moved amx script c t)).state.cells ≡ length c.state.cells
moved_sized amx script c (state.Goes s) h = h
moved_sized amx script c (state.Errs code) h = refl
moved_sized amx script c (state.Halts v s) h =
    halted_sized v (is_number 0 v) (is_number 1 v) (is_number 12 v) s c ∙ h.0
moved_sized amx script c (state.Asks n s) h =
    asked_sized script (name_of amx.natives n) (arguments s) s c ∙ h

-- ---- segments

module _ (amx : Amx) (script : Script) (runs : IsRunnable amx) (keeps : IsScript script) where
  abbrev go : Config → Moved Config End
  go = move amx script

  move_sized : (c : Config) (m : Moved Config End) → go c ≡ m → IsState amx c.state
      → length (reached m).state.cells ≡ length c.state.cells
  move_sized c m e h =
      subst (λ (x : Moved Config End). length (reached x).state.cells ≡ length c.state.cells) e
      (moved_sized amx script c (step amx c.state) (step_sized amx c.state h))

  went : (c d : Config) → go c ≡ Goes d → IsState amx c.state → IsState amx d.state
  went c d e h =
      subst (λ (m : Segmented Config End). IsState amx m.config.state)
      (segment-goes go 0 0 c d e ∙ segment-zero go 1 d)
      (keeps_states.traces amx script 1 [] c runs keeps h)

  segment_by : (n k : ℕ) (c : Config) (m : Moved Config End) → go c ≡ m → IsState amx c.state
      → ((d : Config) → IsState amx d.state → length (segment go n (k + 1) d).config.state.cells
      ≡ length d.state.cells)
      → length (segment go (suc n) k c).config.state.cells ≡ length c.state.cells
  segment_by n k c (Goes d) e h f =
      rw (segment-goes go n k c d e) (f d (went c d e h) ∙ move_sized c (Goes d) e h)
  segment_by n k c (Sleeps d) e h f = rw (segment-sleeps go n k c d e) (move_sized c (Sleeps d) e h)
  segment_by n k c (Ends x d) e h f = rw (segment-ends go n k c d x e) (move_sized c (Ends x d) e h)

  pub segment_sized : (n k : ℕ) (c : Config) → IsState amx c.state
      → length (segment go n k c).config.state.cells ≡ length c.state.cells
  segment_sized zero k c h = rw (segment-zero go k c) refl
  segment_sized (suc n) k c h = segment_by n k c (go c) refl h (λ d. segment_sized n (k + 1) d)

module _ {C E : Type 0} (go : C → Moved C E) where
  -- with so many steps before
  abbrev Stepped : ℕ → Segmented C E → Type 0
  Stepped k made = made.stop ≡ Asleep → k + 1 ≤ made.steps

  slept_by : (n k : ℕ) (c : C) (m : Moved C E) → go c ≡ m
      → ((d : C) → Stepped (k + 1) (segment go n (k + 1) d)) → Stepped k (segment go (suc n) k c)
  slept_by n k c (Goes d) e f =
      subst (Stepped k) (sym (segment-goes go n k c d e))
      (λ s. let more = f d s in omega (arith, more))
  slept_by n k c (Sleeps d) e f =
      subst (Stepped k) (sym (segment-sleeps go n k c d e)) (λ s. omega arith)
  slept_by n k c (Ends x d) e f =
      subst (Stepped k) (sym (segment-ends go n k c d x e)) (λ s. absurd (cc s))

  pub slept : (n k : ℕ) (c : C) → Stepped k (segment go n k c)
  slept zero k c = subst (Stepped k) (sym (segment-zero go k c)) (λ s. absurd (cc s))
  slept (suc n) k c = slept_by n k c (go c) refl (λ d. slept n (k + 1) d)

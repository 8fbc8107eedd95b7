-- Two iterations of a machine from one start: one that is over, or goes on, after so many moves.
use Rattle.std.proofs.Common.{◌≡◌, ◌+◌, ◌-◌, ◌<◌, ◌≤◌, inl, inr, ℕ, sym, ap, subst, ◌∙◌, arith}
use Rattle.host_script.specs.declared.event.End.{End}
use Rattle.amx_ops.specs.Runs.{Moved, Finish, Cut, Over, iterate}
use Rattle.amx_ops.specs.Moves.{Config}
use Rattle.amx_ops.proofs.RunLaws.{iterate-zero}
use Rattle.gen_agrees.specs.AgreesOn.{IsPrefix}
use Rattle.gen_sim.proofs.Fronts.{finished}
use Rattle.gen_sim.proofs.Orders.{either}

-- the end and the configuration of an iteration that is over
abbrev end_of : End → Finish Config End → End
end_of x (Cut d) = x
end_of x (Over e d) = e

pub over_end : (e f : End) (c d : Config) → Over e c ≡ Over f d → e ≡ f
over_end e f c d p = ap (end_of e) p

pub over_config : (e f : End) (c d : Config) → Over e c ≡ Over f d → c ≡ d
over_config e f c d p = ap finished p

cut_or_over : (e : End) (c d : Config) → Cut c ≡ Over e d → ⊥
cut_or_over e c d p = cc

module _ (mv : Config → Moved Config End) (start : Config) where
  -- an iteration that is over after d steps, and one that goes on after T
  pub over_past : (d T : ℕ) (e : End) (c x : Config)
      → ((k : ℕ) → iterate mv (d + k) start ≡ Over e c)
      → ((k : ℕ) → iterate mv (T + k) start ≡ iterate mv k x)
      → d ≤ T → ⊥
  over_past d T e c x over on h =
      cut_or_over e x c (sym (iterate-zero mv x) ∙ sym (on 0)
      ∙ ap (λ n. iterate mv n start) (omega (arith, h)) ∙ over (T - d))

  pub both_over : (d T : ℕ) (e f : End) (c x : Config)
      → ((k : ℕ) → iterate mv (d + k) start ≡ Over e c)
      → ((k : ℕ) → iterate mv (T + k) start ≡ Over f x)
      → Over e c ≡ Over f x
  both_over d T e f c x over over' =
      sym (over T) ∙ ap (λ n. iterate mv n start) (omega arith) ∙ over' d

  -- along a run events only grow
  module _ (front : (n : ℕ) (c : Config) → IsPrefix c.events
      (finished (iterate mv n c)).events) where
    pub over_front : (d T : ℕ) (e : End) (c x : Config)
        → ((k : ℕ) → iterate mv (d + k) start ≡ Over e c)
        → ((k : ℕ) → iterate mv (T + k) start ≡ iterate mv k x)
        → T < d → IsPrefix x.events c.events
    over_front d T e c x over on h =
        let same : iterate mv (d - T) x ≡ Over e c =
        sym (on (d - T)) ∙ ap (λ n. iterate mv n start) (omega (arith, h)) ∙ over 0 in
        subst (λ f. IsPrefix x.events (finished f).events) same (front (d - T) x)

    pub on_front : (d T : ℕ) (c x : Config)
        → ((k : ℕ) → iterate mv (d + k) start ≡ iterate mv k c)
        → ((k : ℕ) → iterate mv (T + k) start ≡ iterate mv k x)
        → d ≤ T → IsPrefix c.events x.events
    on_front d T c x going on h =
        let same : iterate mv (T - d) c ≡ Cut x =
        sym (going (T - d)) ∙ ap (λ n. iterate mv n start) (omega (arith, h)) ∙ on 0
        ∙ iterate-zero mv x in
        subst (λ f. IsPrefix c.events (finished f).events) same (front (T - d) c)

    -- the machine goes on where the meaning is at w
    pub running_over : (d T : ℕ) (f : End) (c x : Config)
        → ((k : ℕ) → iterate mv (d + k) start ≡ iterate mv k c)
        → ((k : ℕ) → iterate mv (T + k) start ≡ Over f x)
        → (d ≤ T) × IsPrefix c.events x.events
    running_over d T f c x going over =
        elim (either d T) [
          | inl before ↦ (
            before,
            (let same : iterate mv (T - d) c ≡ Over f x = sym (going (T - d))
                ∙ ap (λ n. iterate mv n start) (omega (arith, before)) ∙ over 0 in
                subst (λ f. IsPrefix c.events (finished f).events) same (front (T - d) c)),
          )
          | inr after ↦ absurd (over_past T d f x c over going (omega (arith, after)))
        ]

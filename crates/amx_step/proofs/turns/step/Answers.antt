use Rattle.std.proofs.Common.{◌≡◌, ◌<◌, ◌∙◌, ℕ, ℤ, pos, map, ap, sym, subst, arith, refl}
use Rattle.std.proofs.Common.{to_z, of_z, w32, FitsSigned}
use Rattle.std.proofs.lemmas.Int.{to_z-of_z}
use Rattle.amx_ops.specs.declared.amx.Record.{Record}
use Rattle.amx_step.specs.Done.{IsReady, acts}
use Rattle.amx_step.specs.Groups.{row}
use Rattle.amx_step.specs.Turns.{IsTurn}
use Rattle.amx_step.proofs.StepLaws.{no_start, at_met, ready_met, step_met}
use Rattle.amx_step.proofs.turns.step.Goals as goal

-- a kind as the number that is handed on
number_is : (kind : ℕ) (number : ℤ) → FitsSigned w32 number → number ≡ pos kind
    → pos kind ≡ to_z w32 (of_z w32 number)
number_is kind number fits is = sym is ∙ sym (to_z-of_z w32 number fits)

pub returns-then-kind-eq0 : goal.returns-then-kind-eq0
returns-then-kind-eq0 c =
    (no_start c.args.machine.now (c.kind-kind.ensures.none c.if-kind-eq0.true), refl)

pub act-requires-clause-at : goal.act-requires-clause-at
act-requires-clause-at c =
    let m = c.args.machine.now in
    let some : 0 < c.kind-kind.result = omega (arith, c.if-kind-eq0.false) in
    at_met m c.kind-kind.result m.amx.entry (map (λ (it : Record). it.address) m.amx.publics)
    c.amx.ensures.valid (c.kind-kind.ensures.some some)

pub act-requires-clause-ready : goal.act-requires-clause-ready
act-requires-clause-ready c =
    let m = c.args.machine.now in
    let some : 0 < c.kind-kind.result = omega (arith, c.if-kind-eq0.false) in
    subst (λ z. IsReady m (row z))
    (number_is c.kind-kind.result c.from.result (record { sfits = c.from.type_inv }) c.from.ensures)
    (ready_met m c.kind-kind.result m.amx.entry (map (λ (it : Record). it.address) m.amx.publics)
    c.amx.ensures.valid (c.kind-kind.ensures.some some))

pub returns : goal.returns
returns c =
    let m = c.args.machine.now in
    let some : 0 < c.kind-kind.result = omega (arith, c.if-kind-eq0.false) in
    subst (λ t. IsTurn t m c.act.result c.act.new.machine)
    (sym (step_met m c.kind-kind.result m.amx.entry
    (map (λ (it : Record). it.address) m.amx.publics) c.amx.ensures.valid
    (c.kind-kind.ensures.some some)
    ∙ ap (λ z. acts m (row z)) (number_is c.kind-kind.result c.from.result
    (record { sfits = c.from.type_inv }) c.from.ensures))) c.act.ensures

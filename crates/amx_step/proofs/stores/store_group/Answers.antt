use Rattle.std.proofs.Common.{◌≡◌, ℤ, ℕ, pos, Some, refl, sym, subst, w32, FitsSigned, rules}
use Rattle.std.proofs.lemmas.Int.{to_z-of_z}
use Rattle.amx_ops.specs.declared.op.Op.TheVariants as op
use Rattle.amx_ops.specs.Step.{act}
use Rattle.amx_step.specs.Turns.{IsTurn}
use Rattle.amx_step.specs.Groups.{group}
use Rattle.amx_step.specs.Done.{IsDone, next_cell}
use Rattle.amx_step.proofs.stores.store_group.Goals as goal

pub returns-in-24 : goal.returns-in-24
returns-in-24 c =
    let m = c.args.machine.now in
    let turn = c.store_bytes.result in
    let new = c.store_bytes.new.self in
    let is : c.args.number ≡ pos 24 = search rules in
    let fits : FitsSigned w32 c.operand-v-in-24.result = search rules in
    let done = rw (to_z-of_z w32 c.operand-v-in-24.result fits) at c.store_bytes.ensures in
    let at_cell =
    subst (λ (v : ℤ). IsTurn (act m.amx op.StrbI v c.behind-q-in-24.result m.state) m turn
    new) c.operand-v-in-24.ensures done in
    let at_next =
    subst (λ (q : ℕ). IsTurn (act m.amx op.StrbI (next_cell m) q m.state) m turn new)
    c.behind-q-in-24.ensures at_cell in
    subst (λ (n : ℤ). IsDone (group 14 10 n) m (Some turn) new) (sym is) (refl, at_next)

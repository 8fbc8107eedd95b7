use Rattle.std.proofs.Common.{◌≡◌, ℤ, List, ap, sym, ◌∙◌, arith}
use Rattle.amx_ops.specs.Access.{cells_moved}
use Rattle.amx_step.proofs.ByteLaws.{moved_none}
use Rattle.amx_step.proofs.registers.Core.copy_bytes.Goals as goal

pub returns-else-count-gt0 : goal.returns-else-count-gt0
returns-else-count-gt0 c =
    let m = c.args.self.now in
    let none : c.args.count ≡ 0 = omega (arith, c.if-count-gt0.false) in
    ap (λ (cells : List ℤ). record m { state = record m.state { cells = cells } })
    (sym (moved_none m.state.cells c.args.from c.args.to)
    ∙ ap (cells_moved m.state.cells c.args.from c.args.to) (sym none))

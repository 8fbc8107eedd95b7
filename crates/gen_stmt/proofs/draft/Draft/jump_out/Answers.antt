use Rattle.std.proofs.Common.{ap}
use Rattle.amx_ops.specs.declared.op.Op.TheVariants as op
use Rattle.gen_expr.proofs.JumpLaws.{jump_wide}
use Rattle.gen_stmt.proofs.GrownLaws.{hole_grown}
use Rattle.gen_stmt.proofs.draft.Draft.jump_out.Goals as goal

pub returns : goal.returns
returns c =
    hole_grown op.Jump jump_wide c.args.self _ c.in_ok-code.code c.in_ok-at.at c.args.exit c.in_ok-code.ensures
    c.in_ok-at.ensures
    (ap (λ holes. record { code = c.in_ok-code.code; holes = holes }) c.in_ok-push.ensures.ok)

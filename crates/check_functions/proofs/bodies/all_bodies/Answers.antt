use Rattle.std.proofs.Common.{arith}
use Rattle.std.proofs.lemmas.Result.{err_from_is_err_and}
use Rattle.check_functions.proofs.BodyLaws.{body_fails}
use Rattle.check_functions.proofs.bodies.all_bodies.Goals as goal

pub returns-in_err-body : goal.returns-in_err-body
returns-in_err-body c =
    let p = err_from_is_err_and c.from_residual.result c.from_residual.ensures.1 in
    rw (p.1, p.2)
    (body_fails c.args.classified c.loop-it.again c.args.bodies.now c.loop-it.it-index
    c.it-item.result _ _ c.loop-it.invariant (omega arith) c.it-item.is
    c.in_err-body.ensures)

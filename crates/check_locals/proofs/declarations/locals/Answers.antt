use Rattle.std.proofs.Common.{arith}
use Rattle.std.proofs.lemmas.Result.{err_from_is_err_and}
use Rattle.check_locals.proofs.VarLaws.{locals_begin, locals_more, locals_fail, locals_all}
use Rattle.check_locals.proofs.declarations.locals.Goals as goal

pub loop-i-init : goal.loop-i-init
loop-i-init c = rw c.in_ok-none.ensures (locals_begin _ _ _ _ _ _)

pub loop-i-preserved : goal.loop-i-preserved
loop-i-preserved c =
    locals_more _ _ _ _ _ _ _ c.args.vars.now c.loop-i.i c.index-vars-i.result _ _ _
    c.loop-i.invariant (omega arith)
    c.index-vars-i.is c.in_ok-it.ensures c.in_ok-declare_var.ensures c.in_ok-done.ensures

pub returns-in_err-it-clause-tells : goal.returns-in_err-it-clause-tells
returns-in_err-it-clause-tells c =
    let p =
    err_from_is_err_and c.from_residual-in_err-it.result c.from_residual-in_err-it.ensures.1 in
    rw (p.1, p.2) (locals_fail _ _ _ _ _ _ _ _ c.index-vars-i.result _ _ c.loop-i.invariant
    (omega arith) c.index-vars-i.is c.in_err-it.ensures)

pub returns-clause-tells : goal.returns-clause-tells
returns-clause-tells c = (locals_all _ _ _ _ _ _ _ _ _ c.loop-i.invariant (omega arith)).0

pub returns-clause-behind : goal.returns-clause-behind
returns-clause-behind c = (locals_all _ _ _ _ _ _ _ _ _ c.loop-i.invariant (omega arith)).1

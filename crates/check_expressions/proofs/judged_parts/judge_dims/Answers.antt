use Rattle.std.proofs.Common.{arith}
use Rattle.std.proofs.lemmas.Result.{err_from_is_err_and}
use Rattle.check_nodes.specs.ContextView.{around_view}
use Rattle.check_nodes.specs.Scopes.{scope_view}
use Rattle.check_expressions.proofs.BesideLaws.{dims_law, parts_begin, parts_more, parts_fail}
use Rattle.check_expressions.proofs.BesideLaws.{parts_answer}
use Rattle.check_expressions.proofs.judged_parts.judge_dims.Goals as goal

pub loop-i-init : goal.loop-i-init
loop-i-init c = parts_begin _ _

pub loop-i-preserved : goal.loop-i-preserved
loop-i-preserved c =
    let law = dims_law (around_view c.args.cx.now) (scope_view c.args.scopes.now) in
    parts_more _ _ law _ _ _ c.index-dims-i.result _ c.loop-i.invariant
    (omega arith) c.index-dims-i.is
    (c.in_ok-stand.ensures _ c.judge_dim-part.ensures)

pub returns-in_err-stand : goal.returns-in_err-stand
returns-in_err-stand c =
    let law = dims_law (around_view c.args.cx.now) (scope_view c.args.scopes.now) in
    let p = err_from_is_err_and c.from_residual.result c.from_residual.ensures.1 in
    rw (p.1, p.2)
    (parts_fail _ _ law _ _ _ c.index-dims-i.result _ c.loop-i.invariant
    (omega arith) c.index-dims-i.is
    (c.in_err-stand.ensures _ c.judge_dim-part.ensures))

pub returns : goal.returns
returns c =
    let law = dims_law (around_view c.args.cx.now) (scope_view c.args.scopes.now) in
    parts_answer _ _ law _ _ _ c.all_stand.result c.loop-i.invariant
    (omega arith) c.all_stand.ensures

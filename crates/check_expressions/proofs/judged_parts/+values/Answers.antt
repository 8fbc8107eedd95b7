use Rattle.std.proofs.Common.{arith}
use Rattle.std.proofs.lemmas.Result.{err_from_is_err_and}
use Rattle.check_nodes.specs.ContextView.{around_view}
use Rattle.check_nodes.specs.Scopes.{scope_view}
use Rattle.check_expressions.proofs.BesideLaws.{inits_law, parts_begin, parts_more, parts_fail}
use Rattle.check_expressions.proofs.BesideLaws.{parts_answer}
use Rattle.check_expressions.proofs.BracesLaws.{braces_parts}
use Rattle.check_expressions.proofs.judged_parts.+values.Goals as goal

pub judge_init-returns-in-Braces : goal.judge_init-returns-in-Braces
judge_init-returns-in-Braces t c =
    rw (
      c.in-Braces.is,
      braces_parts (around_view c.args.cx.now) (scope_view c.args.scopes.now) c.in-Braces.field-0
          c.in-Braces.list c.in-Braces.field-2,
    ) c.judge_inits.ensures

pub judge_inits-loop-i-init : goal.judge_inits-loop-i-init
judge_inits-loop-i-init t c = parts_begin _ _

pub judge_inits-loop-i-preserved : goal.judge_inits-loop-i-preserved
judge_inits-loop-i-preserved t c =
    let law = inits_law (around_view c.args.cx.now) (scope_view c.args.scopes.now) in
    parts_more _ _ law _ _ _ c.index-items-i.result _ c.loop-i.invariant
    (omega arith) c.index-items-i.is
    (c.in_ok-stand.ensures _ c.judge_init-part.ensures)

pub judge_inits-returns-in_err-stand : goal.judge_inits-returns-in_err-stand
judge_inits-returns-in_err-stand t c =
    let law = inits_law (around_view c.args.cx.now) (scope_view c.args.scopes.now) in
    let p = err_from_is_err_and c.from_residual.result c.from_residual.ensures.1 in
    rw (← c.as_slice-items.ensures, p.1, p.2)
    (parts_fail _ _ law _ _ _ c.index-items-i.result _ c.loop-i.invariant
    (omega arith) c.index-items-i.is
    (c.in_err-stand.ensures _ c.judge_init-part.ensures))

pub judge_inits-returns : goal.judge_inits-returns
judge_inits-returns t c =
    let law = inits_law (around_view c.args.cx.now) (scope_view c.args.scopes.now) in
    rw (← c.as_slice-items.ensures)
    (parts_answer _ _ law _ _ _ c.all_stand.result c.loop-i.invariant
    (omega arith) c.all_stand.ensures)

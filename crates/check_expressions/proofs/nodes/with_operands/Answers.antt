use Rattle.std.proofs.Common.{◌≡◌}
use Rattle.std.specs.declared.alloc.Global.{Global}
use Rattle.std.specs.declared.boxed.Box.{Box}
use Rattle.std.proofs.lemmas.Result.{err_from_is_err_and}
use Rattle.check_expressions.specs.Nodes.{double_rule}
use Rattle.check_nodes.specs.ContextView.{around_view}
use Rattle.check_nodes.specs.declared.typed.Typed as held
use Rattle.check_expressions.specs.BoxedView.{boxed_view}
use Rattle.check_expressions.proofs.PairLaws.{parts_fail, parts_stand, judged_fail, judged_stand}
use Rattle.check_expressions.proofs.nodes.with_operands.Goals as goal

pub returns-in_err-x-clause-answer : goal.returns-in_err-x-clause-answer
returns-in_err-x-clause-answer c =
    λ v w h k.
    let p = err_from_is_err_and c.from_residual.result c.from_residual.ensures.1 in
    rw (p.1, p.2) (parts_fail boxed_view boxed_view v w
    (double_rule (around_view c.args.cx.now) c.args.at c.args.by) c.args.x c.args.y _
    c.in_err-x.ensures h k)

pub returns-in_err-x-clause-judged : goal.returns-in_err-x-clause-judged
returns-in_err-x-clause-judged c =
    λ m n h.
    let p = err_from_is_err_and c.from_residual.result c.from_residual.ensures.1 in
    rw (p.1, p.2) (judged_fail (m ≡ n) c.args.x c.args.y (Box held.Typed Global) _
    c.in_err-x.ensures h)

pub returns-clause-answer : goal.returns-clause-answer
returns-clause-answer c =
    λ v w h k.
    c.boxed.ensures.answer _ (rw (
      (parts_stand boxed_view boxed_view v w
          (double_rule (around_view c.args.cx.now) c.args.at c.args.by) c.args.x c.args.y
          c.in_ok-x.x c.in_ok-x.y c.in_ok-x.ensures h k),
      ← c.into_inner.ensures,
      ← c.into_inner-2.ensures,
    )
    c.double_typed-node.ensures)

pub returns-clause-judged : goal.returns-clause-judged
returns-clause-judged c =
    λ m n h.
    c.boxed.ensures.judged m n
    (judged_stand (m ≡ n) c.args.x c.args.y c.in_ok-x.x c.in_ok-x.y c.in_ok-x.ensures h)

use Rattle.std.proofs.Common.{◌+◌, sym, subst, ◌∙◌, refl, arith}
use Rattle.names_rules.specs.Verdict.{Verdict}
use Rattle.types_rules.specs.VariableParts.{Judged}
use Rattle.check_nodes.specs.PartAnswers.{PartAnswers}
use Rattle.check_nodes.specs.ContextView.{around_view}
use Rattle.check_nodes.specs.Scopes.{scope_view}
use Rattle.check_expressions.specs.JudgedView.{judged_view}
use Rattle.check_heads.proofs.FoldLaws.{fold_begins, fold_more, fold_fails, fold_all, fold_ends}
use Rattle.check_heads.proofs.ParamLaws.{parts_are, spot_behind}
use Rattle.check_heads.proofs.RuleLaws.{judged_holds, exit_answers, exit_judged, unless_memory}
use Rattle.check_heads.proofs.heads.judge_params.Goals as goal

pub loop-i-init : goal.loop-i-init
loop-i-init c = (fold_begins _ _ _ _ (parts_are _ _) _ refl, refl)

pub loop-i-preserved : goal.loop-i-preserved
loop-i-preserved c =
    let spot =
    spot_behind (around_view c.args.cx.now) c.args.at (scope_view c.loop-i.scopes) _ _ _ _
    c.in_ok-number.ensures c.in_ok-declare_param.ensures.scope in (
      fold_more _ _ _ _ _ _ _ (parts_are _ _) _ _ _ c.loop-i.invariant.0
          (omega arith) c.index-params-i.is
          (c.in_ok-fell.ensures _ c.judge_param-part.ensures) spot,
      c.in_ok-declare_param.ensures.outer ∙ c.loop-i.invariant.1,
    )

pub returns-in_err-fell : goal.returns-in_err-fell
returns-in_err-fell c =
    let broken = c.in_err-fell.ensures _ c.judge_param-part.ensures in
    let fails =
    fold_fails _ _ _ _ _ _ _ (parts_are _ _) _ _ c.loop-i.invariant.0
    (omega arith) c.index-params-i.is broken in
    record {
      verdict = exit_answers judged_view _ c.from_residual.result _ c.from_residual.ensures.1 fails;
      scope = exit_judged _ _ c.from_residual.result _ c.from_residual.ensures.1 broken;
      outer = unless_memory c.from_residual.result c.loop-i.invariant.1;
    }

pub returns : goal.returns
returns c =
    let whole = fold_all _ _ _ _ _ _ _ (parts_are _ _) c.loop-i.invariant.0 (omega arith) in
    let P : Verdict Judged → Type 0 = λ w. PartAnswers judged_view w c.all_parts.result in
    record {
      verdict = subst P (sym whole) c.all_parts.ensures;
      scope =
          judged_holds _ (sym (fold_ends _ _ _ _ _ _ _ (parts_are _ _) c.loop-i.invariant.0
          (omega arith)));
      outer = unless_memory _ c.loop-i.invariant.1;
    }

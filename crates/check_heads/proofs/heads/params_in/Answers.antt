use Rattle.std.proofs.Common.{◌+◌, sym, subst, ◌∙◌, refl, arith}
use Rattle.names_rules.specs.Verdict.{Verdict}
use Rattle.types_rules.specs.Params.{Headed}
use Rattle.check_nodes.specs.PartAnswers.{PartAnswers}
use Rattle.check_nodes.specs.ContextView.{around_view}
use Rattle.check_nodes.specs.Scopes.{scope_view}
use Rattle.check_heads.specs.HeadedView.{headed_view}
use Rattle.check_heads.proofs.FoldLaws.{fold_begins, fold_more, fold_fails, fold_all}
use Rattle.check_heads.proofs.ParamLaws.{params_are, spot_behind}
use Rattle.check_heads.proofs.RuleLaws.{exit_answers, unless_memory}
use Rattle.check_heads.proofs.heads.params_in.Goals as goal

pub loop-i-init : goal.loop-i-init
loop-i-init c = (fold_begins _ _ _ _ (params_are _ _) _ c.nothing-so_far.ensures, refl)

pub loop-i-preserved : goal.loop-i-preserved
loop-i-preserved c =
    let spot =
    spot_behind (around_view c.args.cx.now) c.args.at (scope_view c.loop-i.scopes) _ _ _ _
    c.in_ok-number.ensures c.in_ok-declare_param.ensures.scope in (
      fold_more _ _ _ _ _ _ _ (params_are _ _) _ _ _ c.loop-i.invariant.0
          (omega arith) c.index-params-i.is
          (c.in_ok-so_far.ensures _ c.param_rule-it.ensures) spot,
      c.in_ok-declare_param.ensures.outer ∙ c.loop-i.invariant.1,
    )

pub returns-in_err-so_far : goal.returns-in_err-so_far
returns-in_err-so_far c =
    let broken = c.in_err-so_far.ensures _ c.param_rule-it.ensures in
    let fails =
    fold_fails _ _ _ _ _ _ _ (params_are _ _) _ _ c.loop-i.invariant.0
    (omega arith) c.index-params-i.is broken in
    record {
      verdict = exit_answers headed_view _ c.from_residual.result _ c.from_residual.ensures.1 fails;
      outer = unless_memory c.from_residual.result c.loop-i.invariant.1;
    }

pub returns : goal.returns
returns c =
    let whole = fold_all _ _ _ _ _ _ _ (params_are _ _) c.loop-i.invariant.0 (omega arith) in
    let P : Verdict Headed → Type 0 = λ w. PartAnswers headed_view w c.all.result in
    record {
      verdict = subst P (sym whole) c.all.ensures;
      outer = unless_memory _ c.loop-i.invariant.1;
    }

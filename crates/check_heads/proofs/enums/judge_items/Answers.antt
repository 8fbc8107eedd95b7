use Rattle.std.proofs.Common.{◌≡◌, ℕ, length, sym, ap, subst, ◌∙◌, refl, Err, arith}
use Rattle.names_rules.specs.Verdict.{Verdict}
use Rattle.types_rules.specs.VariableParts.{Judged}
use Rattle.check_nodes.specs.PartAnswers.{PartAnswers}
use Rattle.check_expressions.specs.JudgedView.{judged_view}
use Rattle.check_nodes.specs.Scopes.{Blocks, without}
use Rattle.check_nodes.proofs.IndexLaws.{without_none}
use Rattle.check_heads.proofs.FoldLaws.{fold_begins, fold_more, fold_fails, fold_all}
use Rattle.check_heads.proofs.RuleLaws.{judged_holds, exit_answers, exit_judged}
use Rattle.check_heads.proofs.EnumLaws.{parts_are, without_again}
use Rattle.check_heads.proofs.enums.judge_items.Goals as goal

pub loop-i-init : goal.loop-i-init
loop-i-init c =
    (fold_begins _ _ _ _ (parts_are _ _ _) _ refl, sym (without_none c.args.scopes.now))

pub loop-i-preserved : goal.loop-i-preserved
loop-i-preserved c = (
  fold_more _ _ _ _ _ _ _ (parts_are _ _ _) _ _ _ c.loop-i.invariant.0
      (omega arith) c.index-items-i.is
      (c.in_ok-fell.ensures _ c.judge_maybe-part.ensures) c.in_ok-next.ensures.scope,
  sym (without_again _ c.loop-i.i)
      ∙ ap (λ (it : Blocks). without c.loop-i.i it) c.in_ok-next.ensures.one
      ∙ c.loop-i.invariant.1,
)

pub returns-in_err-fell : goal.returns-in_err-fell
returns-in_err-fell c =
    let broken = c.in_err-fell.ensures _ c.judge_maybe-part.ensures in
    let fails =
    fold_fails _ _ _ _ _ _ _ (parts_are _ _ _) _ _ c.loop-i.invariant.0
    (omega arith) c.index-items-i.is broken in
    record {
      verdict = exit_answers judged_view _ c.from_residual.result _ c.from_residual.ensures.1 fails;
      scope = exit_judged _ _ c.from_residual.result _ c.from_residual.ensures.1 broken;
    }

pub returns : goal.returns
returns c =
    let whole = fold_all _ _ _ _ _ _ _ (parts_are _ _ _) c.loop-i.invariant.0 (omega arith) in
    let P : Verdict Judged → Type 0 = λ w. PartAnswers judged_view w c.all_parts.result in
    let all : c.loop-i.i ≡ length c.args.them.items.now = omega arith in
    record {
      verdict = subst P (sym whole) c.all_parts.ensures;
      scope =
          judged_holds _ (ap (λ (n : ℕ). without n c.loop-i.scopes) (sym all)
          ∙ c.loop-i.invariant.1);
    }

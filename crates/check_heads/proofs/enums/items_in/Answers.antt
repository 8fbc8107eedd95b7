use Rattle.std.proofs.Common.{◌≡◌, sym, refl, arith}
use Rattle.std.proofs.lemmas.Result.{err_from_is_err_and}
use Rattle.check_heads.proofs.FoldLaws.{fold_begins, fold_more, fold_breaks, fold_all, fold_ends}
use Rattle.check_heads.proofs.EnumLaws.{warned_are}
use Rattle.check_heads.proofs.enums.items_in.Goals as goal

pub loop-i-init : goal.loop-i-init
loop-i-init c = fold_begins _ _ _ _ (warned_are _ _ _) _ c.nothing-done.ensures

pub loop-i-preserved : goal.loop-i-preserved
loop-i-preserved c =
    fold_more _ _ _ _ _ _ _ (warned_are _ _ _) _ _ _ c.loop-i.invariant
    (omega arith) c.index-items-i.is
    (c.in_ok-done.ensures _ c.item_rule-warned.ensures) c.in_ok-next.ensures.scope

pub returns-in_err-done : goal.returns-in_err-done
returns-in_err-done c =
    let p = err_from_is_err_and c.from_residual.result c.from_residual.ensures.1 in
    let broken = c.in_err-done.ensures _ c.item_rule-warned.ensures in
    rw (p.1, p.2) (record {
      verdict =
          fold_breaks _ _ _ _ _ _ _ (warned_are _ _ _) _ _ c.loop-i.invariant
          (omega arith) c.index-items-i.is broken;
      scope = tt;
    })

pub returns : goal.returns
returns c = record {
  verdict = fold_all _ _ _ _ _ _ _ (warned_are _ _ _) c.loop-i.invariant (omega arith);
  scope = sym (fold_ends _ _ _ _ _ _ _ (warned_are _ _ _) c.loop-i.invariant (omega arith));
}

use Rattle.std.proofs.Common.{arith, ap, ◌∙◌, ◌∷◌, []}
use Rattle.std.proofs.lemmas.Result.{err_from_is_err_and}
use Rattle.names_rules.specs.Verdict.{Stands, after}
use Rattle.pawn_tree.specs.View.{range_view}
use Rattle.types_rules.specs.Switches.{ends}
use Rattle.check_nodes.specs.ContextView.{around_view}
use Rattle.check_nodes.specs.Scopes.{scope_view}
use Rattle.pawn_verdict.proofs.VerdictLaws.{fails_after}
use Rattle.check_switches.proofs.TakenLaws.{taken_begins, taken_more, taken_fails, taken_all}
use Rattle.check_switches.proofs.RuleLaws.{pushed}
use Rattle.check_switches.proofs.ends.all_ends.Goals as goal

pub loop-i-init : goal.loop-i-init
loop-i-init c = rw c.new.ensures.items (taken_begins _ _ _ _ _ _ _)

pub loop-i-preserved : goal.loop-i-preserved
loop-i-preserved c =
    taken_more _ _ _ _ _ _ _ _ c.index-ranges-i.result _ _ _ c.loop-i.invariant
    (omega arith) c.index-ranges-i.is
    (ap (λ v. after v (λ y. Stands (y ∷ []))) c.in_ok-it.ensures)
    (c.in_ok-done.ensures ∙ pushed _ _)

pub returns-in_err-it : goal.returns-in_err-it
returns-in_err-it c =
    let p = err_from_is_err_and c.from_residual.result c.from_residual.ensures.1 in
    rw (p.1, p.2) (taken_fails _ _ _ _ _ _ _ _ c.index-ranges-i.result _ _ c.loop-i.invariant
    (omega arith) c.index-ranges-i.is
    (fails_after (ends (around_view c.args.cx.now) (scope_view c.args.scopes.now)
    (range_view c.index-ranges-i.result)) (λ y. Stands (y ∷ [])) _ c.in_err-it.ensures))

pub returns : goal.returns
returns c = taken_all _ _ _ _ _ _ _ _ _ c.loop-i.invariant (omega arith)

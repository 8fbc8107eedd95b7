use Rattle.std.proofs.Common.{sym, ap, ◌∙◌}
use Rattle.pawn_meaning.specs.View.{expr_view}
use Rattle.pawn_meaning.proofs.ViewLaws.{expr_view-Chain}
use Rattle.gen_expr.specs.Standing.{scope_of}
use Rattle.gen_expr.specs.TestView.{test_view}
use Rattle.gen_expr.proofs.ConditionLaws.{single_code, single_test, several_code, several_test}
use Rattle.gen_expr.proofs.conditions.+condition.Goals as goal

pub returns-then-is_single-clause-code : goal.returns-then-is_single-clause-code
returns-then-is_single-clause-code t c =
    single_code
    (scope_of c.args.frame.now) c.args.b (expr_view c.args.e.now)
    (expr_view c.in-Chain.x.value) c.as_slice-items.result.now c.in-Chain.links
    (ap expr_view c.in-Chain.is ∙ expr_view-Chain c.in-Chain.x c.in-Chain.links)
    c.as_slice-items.ensures
    c.folded.result c.is_some.result c.is_some.ensures c.folded.ensures c.if-is_some.false
    c.index-items-0.result (test_view c.link_test.result)
    (sym c.is_single.ensures ∙ c.if-is_single.true) c.index-items-0.is c.link_test.ensures
    c.pair-then-is_single.result
    (rw c.deref-then-is_single.ensures at c.pair-then-is_single.ensures.code)

pub returns-then-is_single-clause-test : goal.returns-then-is_single-clause-test
returns-then-is_single-clause-test t c =
    single_test
    (scope_of c.args.frame.now) c.args.b (expr_view c.args.e.now)
    (expr_view c.in-Chain.x.value) c.as_slice-items.result.now c.in-Chain.links
    (ap expr_view c.in-Chain.is ∙ expr_view-Chain c.in-Chain.x c.in-Chain.links)
    c.as_slice-items.ensures
    c.folded.result c.is_some.result c.is_some.ensures c.folded.ensures c.if-is_some.false
    c.index-items-0.result (test_view c.link_test.result)
    (sym c.is_single.ensures ∙ c.if-is_single.true) c.index-items-0.is c.link_test.ensures
    c.pair-then-is_single.result
    c.pair-then-is_single.ensures.test

pub returns-else-is_single-clause-code : goal.returns-else-is_single-clause-code
returns-else-is_single-clause-code t c =
    several_code
    (scope_of c.args.frame.now) c.args.b (expr_view c.args.e.now)
    (expr_view c.in-Chain.x.value) c.as_slice-items.result.now c.in-Chain.links
    (ap expr_view c.in-Chain.is ∙ expr_view-Chain c.in-Chain.x c.in-Chain.links)
    c.as_slice-items.ensures
    (sym c.is_single.ensures ∙ c.if-is_single.false) c.plain-else-is_single.result
    c.plain-else-is_single.ensures.code

pub returns-else-is_single-clause-test : goal.returns-else-is_single-clause-test
returns-else-is_single-clause-test t c =
    several_test
    (scope_of c.args.frame.now) c.args.b (expr_view c.args.e.now)
    (expr_view c.in-Chain.x.value) c.as_slice-items.result.now c.in-Chain.links
    (ap expr_view c.in-Chain.is ∙ expr_view-Chain c.in-Chain.x c.in-Chain.links)
    c.as_slice-items.ensures
    (sym c.is_single.ensures ∙ c.if-is_single.false) c.plain-else-is_single.result
    c.plain-else-is_single.ensures.test

use Rattle.std.proofs.Common.{◌≡◌, ◌+◌, ℕ, arith, refl, sym, subst, map}
use Rattle.pawn_tree.specs.Expressions as tree
use Rattle.pawn_tree.specs.Expressions.{links}
use Rattle.pawn_tree.specs.View.{expr_view, link_view}
use Rattle.names_rules.specs.Verdict.{Verdict}
use Rattle.types_rules.specs.Chains.{Compared}
use Rattle.types_rules.specs.Expressions.{expr}
use Rattle.types_rules.specs.Literals.{literals}
use Rattle.check_nodes.specs.PartAnswers.{Judged, PartAnswers}
use Rattle.check_nodes.specs.ContextView.{around_view}
use Rattle.check_nodes.specs.Scopes.{scope_view}
use Rattle.check_nodes.specs.Compared.{compared_view}
use Rattle.check_expressions.specs.BoxedView.{boxed_view}
use Rattle.check_expressions.proofs.CollectLaws.{collects_none, collects_more, collects_all}
use Rattle.check_expressions.proofs.CollectLaws.{counts_all}
use Rattle.check_expressions.proofs.LiteralCountLaws.{counts_two, counts_three, second_at, third_at}
use Rattle.check_expressions.proofs.LiteralCountLaws.{links_at, chain_is, call_is, linked_is}
use Rattle.check_expressions.proofs.LiteralCountLaws.{link_literals_are}
use Rattle.check_expressions.proofs.expression.+expression.Goals as goal

-- ---- lists

pub links_of-loop-i-init : goal.links_of-loop-i-init
links_of-loop-i-init t c = collects_none _ _ _ _ _ _ _ _ _ _ _ (rw c.new.ensures.items refl)

pub links_of-loop-i-preserved : goal.links_of-loop-i-preserved
links_of-loop-i-preserved t c =
    collects_more _ _ _ _ _ _ _ _ _ _ _ _ _ c.loop-i.invariant (omega arith) c.index-items-i.is
    c.linked-it.ensures.answer c.linked-it.ensures.behind c.with_link-all.ensures.so_far
    c.with_link-all.ensures.judged

pub links_of-returns-clause-answer : goal.links_of-returns-clause-answer
links_of-returns-clause-answer t c =
    rw (← c.as_slice-items.ensures)
    (collects_all _ _ _ _ _ _ _ _ _ _ c.loop-i.invariant (omega arith))

pub links_of-returns-clause-behind : goal.links_of-returns-clause-behind
links_of-returns-clause-behind t c =
    rw (← c.as_slice-items.ensures)
    (counts_all _ _ _ _ _ _ _ _ _ _ c.loop-i.invariant (omega arith))

pub offers_of-loop-i-init : goal.offers_of-loop-i-init
offers_of-loop-i-init t c = collects_none _ _ _ _ _ _ _ _ _ _ _ (rw c.new.ensures.items refl)

pub offers_of-loop-i-preserved : goal.offers_of-loop-i-preserved
offers_of-loop-i-preserved t c =
    collects_more _ _ _ _ _ _ _ _ _ _ _ _ _ c.loop-i.invariant (omega arith) c.index-items-i.is
    c.offered-it.ensures.answer c.offered-it.ensures.behind c.with_offer-all.ensures.so_far
    c.with_offer-all.ensures.judged

pub offers_of-returns-clause-answer : goal.offers_of-returns-clause-answer
offers_of-returns-clause-answer t c =
    rw (← c.as_slice-items.ensures)
    (collects_all _ _ _ _ _ _ _ _ _ _ c.loop-i.invariant (omega arith))

pub offers_of-returns-clause-behind : goal.offers_of-returns-clause-behind
offers_of-returns-clause-behind t c =
    rw (← c.as_slice-items.ensures)
    (counts_all _ _ _ _ _ _ _ _ _ _ c.loop-i.invariant (omega arith))

-- ---- elements

pub offered-returns-in-Value-clause-answer : goal.offered-returns-in-Value-clause-answer
offered-returns-in-Value-clause-answer t c =
    rw c.in-Value.is (c.positional.ensures.answer _ c.node-x.ensures.answer)

pub offered-returns-in-Value-clause-behind : goal.offered-returns-in-Value-clause-behind
offered-returns-in-Value-clause-behind t c =
    rw c.in-Value.is (c.positional.ensures.judged _ _ c.node-x.ensures.behind)

pub offered-returns-in-Named-clause-answer : goal.offered-returns-in-Named-clause-answer
offered-returns-in-Named-clause-answer t c =
    rw c.in-Named.is (c.named.ensures.answer _ c.node-x-in-Named.ensures.answer)

pub offered-returns-in-Named-clause-behind : goal.offered-returns-in-Named-clause-behind
offered-returns-in-Named-clause-behind t c =
    rw c.in-Named.is (c.named.ensures.judged _ _ c.node-x-in-Named.ensures.behind)

-- ---- nodes of one operand

pub node-returns-in-Paren-clause-answer : goal.node-returns-in-Paren-clause-answer
node-returns-in-Paren-clause-answer t c =
    rw (c.in-Paren.is, ← c.deref.ensures) (c.with_operand.ensures.answer _ c.node-x.ensures.answer)

pub node-returns-in-Paren-clause-behind : goal.node-returns-in-Paren-clause-behind
node-returns-in-Paren-clause-behind t c =
    rw (c.in-Paren.is, ← c.deref.ensures)
    (c.with_operand.ensures.judged _ _ c.node-x.ensures.behind)

pub node-returns-in-Prefix-clause-answer : goal.node-returns-in-Prefix-clause-answer
node-returns-in-Prefix-clause-answer t c =
    rw (c.in-Prefix.is, ← c.deref-in-Prefix.ensures)
    (c.with_operand-in-Prefix.ensures.answer _ c.node-x-in-Prefix.ensures.answer)

pub node-returns-in-Prefix-clause-behind : goal.node-returns-in-Prefix-clause-behind
node-returns-in-Prefix-clause-behind t c =
    rw (c.in-Prefix.is, ← c.deref-in-Prefix.ensures)
    (c.with_operand-in-Prefix.ensures.judged _ _ c.node-x-in-Prefix.ensures.behind)

pub node-returns-in-Tagged-clause-answer : goal.node-returns-in-Tagged-clause-answer
node-returns-in-Tagged-clause-answer t c =
    rw (c.in-Tagged.is, ← c.deref-in-Tagged.ensures)
    (c.with_operand-in-Tagged.ensures.answer _ c.node-x-in-Tagged.ensures.answer)

pub node-returns-in-Tagged-clause-behind : goal.node-returns-in-Tagged-clause-behind
node-returns-in-Tagged-clause-behind t c =
    rw (c.in-Tagged.is, ← c.deref-in-Tagged.ensures)
    (c.with_operand-in-Tagged.ensures.judged _ _ c.node-x-in-Tagged.ensures.behind)

pub node-returns-in-Postfix-clause-answer : goal.node-returns-in-Postfix-clause-answer
node-returns-in-Postfix-clause-answer t c =
    rw (c.in-Postfix.is, ← c.deref-in-Postfix.ensures)
    (c.with_operand-in-Postfix.ensures.answer _ c.node-x-in-Postfix.ensures.answer)

pub node-returns-in-Postfix-clause-behind : goal.node-returns-in-Postfix-clause-behind
node-returns-in-Postfix-clause-behind t c =
    rw (c.in-Postfix.is, ← c.deref-in-Postfix.ensures)
    (c.with_operand-in-Postfix.ensures.judged _ _ c.node-x-in-Postfix.ensures.behind)

-- ---- of two

pub node-returns-in-Index-clause-answer : goal.node-returns-in-Index-clause-answer
node-returns-in-Index-clause-answer t c =
    rw (c.in-Index.is, ← c.deref-in-Index.ensures, ← c.deref-in-Index-2.ensures)
    (c.with_operands.ensures.answer _ _ c.node-x-in-Index.ensures.answer
    (second_at (around_view c.args.cx.now) (scope_view c.args.scopes.now) _ _
    (expr_view c.deref-in-Index-2.result.now) _ _ c.node-x-in-Index.ensures.behind
    c.node-y.ensures.answer))

pub node-returns-in-Index-clause-behind : goal.node-returns-in-Index-clause-behind
node-returns-in-Index-clause-behind t c =
    rw (c.in-Index.is, ← c.deref-in-Index.ensures, ← c.deref-in-Index-2.ensures)
    (c.with_operands.ensures.judged _ _
    (counts_two _ _ _ _ _ _ _ c.node-x-in-Index.ensures.behind c.node-y.ensures.behind))

pub node-returns-in-Character-clause-answer : goal.node-returns-in-Character-clause-answer
node-returns-in-Character-clause-answer t c =
    rw (c.in-Character.is, ← c.deref-in-Character.ensures, ← c.deref-in-Character-2.ensures)
    (c.with_operands-in-Character.ensures.answer _ _ c.node-x-in-Character.ensures.answer
    (second_at (around_view c.args.cx.now) (scope_view c.args.scopes.now) _ _
    (expr_view c.deref-in-Character-2.result.now) _ _
    c.node-x-in-Character.ensures.behind c.node-y-in-Character.ensures.answer))

pub node-returns-in-Character-clause-behind : goal.node-returns-in-Character-clause-behind
node-returns-in-Character-clause-behind t c =
    rw (c.in-Character.is, ← c.deref-in-Character.ensures, ← c.deref-in-Character-2.ensures)
    (c.with_operands-in-Character.ensures.judged _ _
    (counts_two _ _ _ _ _ _ _ c.node-x-in-Character.ensures.behind
    c.node-y-in-Character.ensures.behind))

pub node-returns-in-Binary-clause-answer : goal.node-returns-in-Binary-clause-answer
node-returns-in-Binary-clause-answer t c =
    rw (c.in-Binary.is, ← c.deref-in-Binary.ensures, ← c.deref-in-Binary-2.ensures)
    (c.with_operands-in-Binary.ensures.answer _ _ c.node-x-in-Binary.ensures.answer
    (second_at (around_view c.args.cx.now) (scope_view c.args.scopes.now) _ _
    (expr_view c.deref-in-Binary-2.result.now) _ _ c.node-x-in-Binary.ensures.behind
    c.node-y-in-Binary.ensures.answer))

pub node-returns-in-Binary-clause-behind : goal.node-returns-in-Binary-clause-behind
node-returns-in-Binary-clause-behind t c =
    rw (c.in-Binary.is, ← c.deref-in-Binary.ensures, ← c.deref-in-Binary-2.ensures)
    (c.with_operands-in-Binary.ensures.judged _ _
    (counts_two _ _ _ _ _ _ _ c.node-x-in-Binary.ensures.behind
    c.node-y-in-Binary.ensures.behind))

pub node-returns-in-Assign-clause-answer : goal.node-returns-in-Assign-clause-answer
node-returns-in-Assign-clause-answer t c =
    rw (c.in-Assign.is, ← c.deref-in-Assign.ensures, ← c.deref-in-Assign-2.ensures)
    (c.with_operands-in-Assign.ensures.answer _ _ c.node-x-in-Assign.ensures.answer
    (second_at (around_view c.args.cx.now) (scope_view c.args.scopes.now) _ _
    (expr_view c.deref-in-Assign-2.result.now) _ _ c.node-x-in-Assign.ensures.behind
    c.node-y-in-Assign.ensures.answer))

pub node-returns-in-Assign-clause-behind : goal.node-returns-in-Assign-clause-behind
node-returns-in-Assign-clause-behind t c =
    rw (c.in-Assign.is, ← c.deref-in-Assign.ensures, ← c.deref-in-Assign-2.ensures)
    (c.with_operands-in-Assign.ensures.judged _ _
    (counts_two _ _ _ _ _ _ _ c.node-x-in-Assign.ensures.behind
    c.node-y-in-Assign.ensures.behind))

-- ---- choices

pub node-returns-in-Choice-clause-answer : goal.node-returns-in-Choice-clause-answer
node-returns-in-Choice-clause-answer t c =
    rw (
      c.in-Choice.is,
      ← c.deref-in-Choice.ensures,
      ← c.deref-in-Choice-2.ensures,
      ← c.deref-in-Choice-3.ensures,
    )
    (c.choose.ensures.answer _ _ _ c.node-x-in-Choice.ensures.answer
    (second_at (around_view c.args.cx.now) (scope_view c.args.scopes.now) _ _
    (expr_view c.deref-in-Choice-2.result.now) _ _ c.node-x-in-Choice.ensures.behind
    c.node-y-in-Choice.ensures.answer)
    (third_at (around_view c.args.cx.now)
    (scope_view c.args.scopes.now) _ _ _
    (expr_view c.deref-in-Choice-3.result.now) _ _ _ _ _
    c.node-x-in-Choice.ensures.behind
    c.node-y-in-Choice.ensures.behind
    c.node-z.ensures.answer))

pub node-returns-in-Choice-clause-behind : goal.node-returns-in-Choice-clause-behind
node-returns-in-Choice-clause-behind t c =
    rw (
      c.in-Choice.is,
      ← c.deref-in-Choice.ensures,
      ← c.deref-in-Choice-2.ensures,
      ← c.deref-in-Choice-3.ensures,
    )
    (c.choose.ensures.judged _ _ (counts_three _ _ _ _ _ _ _ _ _ _
    c.node-x-in-Choice.ensures.behind c.node-y-in-Choice.ensures.behind
    c.node-z.ensures.behind))

-- ---- nodes that hold lists

pub node-returns-in-Chain-clause-answer : goal.node-returns-in-Chain-clause-answer
node-returns-in-Chain-clause-answer t c =
    let P : tree.Expr → Type 0 =
    λ e. PartAnswers boxed_view (expr (around_view c.args.cx.now)
    (scope_view c.args.scopes.now) c.args.objects.now e) c.chained.result in
    subst P (sym (chain_is _ _ _ _ _ c.in-Chain.is c.deref-in-Chain.ensures))
    (c.chained.ensures.answer _ _ c.node-x-in-Chain.ensures.answer
    (links_at (around_view c.args.cx.now) (scope_view c.args.scopes.now) _ _
    (links (map link_view c.in-Chain.list)) _ _ c.node-x-in-Chain.ensures.behind
    c.links_of-links.ensures.answer))

pub node-returns-in-Chain-clause-behind : goal.node-returns-in-Chain-clause-behind
node-returns-in-Chain-clause-behind t c =
    let P : tree.Expr → Type 0 =
    λ e. Judged c.chained.result (c.links_of-links.new.objects ≡ c.args.objects.now + literals e) in
    subst P (sym (chain_is _ _ _ _ _ c.in-Chain.is c.deref-in-Chain.ensures))
    (c.chained.ensures.judged _ _ (counts_two _ _ _ _ _ _ _ c.node-x-in-Chain.ensures.behind
    c.links_of-links.ensures.behind))

pub node-returns-in-Call-clause-answer : goal.node-returns-in-Call-clause-answer
node-returns-in-Call-clause-answer t c =
    let P : tree.Expr → Type 0 =
    λ e. PartAnswers boxed_view (expr (around_view c.args.cx.now)
    (scope_view c.args.scopes.now) c.args.objects.now e) c.call_of.result in
    subst P (sym (call_is _ _ _ _ _ c.in-Call.is))
    (c.call_of.ensures.answer _ c.offers_of-offers.ensures.answer)

pub node-returns-in-Call-clause-behind : goal.node-returns-in-Call-clause-behind
node-returns-in-Call-clause-behind t c =
    let P : tree.Expr → Type 0 =
    λ e. Judged c.call_of.result (c.offers_of-offers.new.objects ≡ c.args.objects.now + literals e)
    in
    subst P (sym (call_is _ _ _ _ _ c.in-Call.is))
    (c.call_of.ensures.judged _ _ c.offers_of-offers.ensures.behind)

-- ---- links

pub linked-returns-clause-answer : goal.linked-returns-clause-answer
linked-returns-clause-answer t c =
    let P : Verdict Compared → Type 0 = λ w. PartAnswers compared_view w c.compare.result in
    subst P (sym (linked_is (around_view c.args.cx.now)
    (scope_view c.args.scopes.now) c.args.objects.now
    (link_view c.args.it.now) _ c.sign_of.ensures))
    (c.compare.ensures.answer _ c.operand_of-x.ensures.answer)

pub linked-returns-clause-behind : goal.linked-returns-clause-behind
linked-returns-clause-behind t c =
    let P : ℕ → Type 0 =
    λ count. Judged c.compare.result (c.operand_of-x.new.objects ≡ c.args.objects.now + count) in
    subst P (sym (link_literals_are (link_view c.args.it.now)))
    (c.compare.ensures.judged _ _ c.operand_of-x.ensures.behind)

use Rattle.std.proofs.Common.{◌≡◌, ◌+◌, ◌*◌, ◌&&◌, Bool, arith, rules, ◌∙◌, ap, sym, Option, ℤ}
use Rattle.std.specs.List.{sum_by}
use Rattle.std.proofs.lemmas.Grind.{common_steps}
use Rattle.pawn_cells.specs.Operators.{cell_in}
use Rattle.pawn_meaning.specs.Program as plain
use Rattle.pawn_meaning.specs.View.{expr_view, arg_view, links_view}
use Rattle.pawn_meaning.proofs.ViewLaws.{seen_chain}
use Rattle.pawn_meaning.specs.Capped.{capped}
use Rattle.pawn_meaning.specs.Fold.{is_constant, are_constant, constant_value, links_value}
use Rattle.pawn_meaning.specs.Fold.{binary_value, and_value, or_value, choice_value}
use Rattle.pawn_meaning.specs.Weight.{expr_weight, arg_weight, links_weight, alone_in}
use Rattle.pawn_meaning.proofs.ChainWalk.{AreChained, chained_ends}
use Rattle.pawn_meaning.proofs.WeightLaws.{built_weight, call_weight, native_weight, chain_law}
use Rattle.pawn_meaning.proofs.expr_weight.+weight.Goals as goal

pub weigh-returns-in-Binary-clause-weight : goal.weigh-returns-in-Binary-clause-weight
weigh-returns-in-Binary-clause-weight t c =
    let k : c.with.result.constant
    ≡ is_constant (plain.Binary c.in-Binary.op (expr_view c.in-Binary.x.value)
    (expr_view c.in-Binary.y.value)) = grind (arith, common_steps) in
    let v : cell_in c.binary_value-value.result
    ≡ constant_value (plain.Binary c.in-Binary.op (expr_view c.in-Binary.x.value)
    (expr_view c.in-Binary.y.value)) = grind (arith, common_steps) in
    let p : c.with.result.weight ≡ capped
    (expr_weight (alone_in c.args.lean) (expr_view c.in-Binary.x.value)
    + expr_weight (alone_in c.args.lean) (expr_view c.in-Binary.y.value)) = grind
    (arith, common_steps) in
    rw c.in-Binary.is (built_weight c.args.lean
    (plain.Binary c.in-Binary.op (expr_view c.in-Binary.x.value)
    (expr_view c.in-Binary.y.value)) _ _ _ _ _ k v p c.built-in-Binary.ensures.weight)

pub weigh-returns-in-And-clause-weight : goal.weigh-returns-in-And-clause-weight
weigh-returns-in-And-clause-weight t c =
    let k : c.with-in-And.result.constant
    ≡ is_constant (plain.And (expr_view c.in-And.x.value) (expr_view c.in-And.y.value)) =
    grind (arith, common_steps) in
    let v : cell_in c.and_value.result
    ≡ constant_value (plain.And (expr_view c.in-And.x.value) (expr_view c.in-And.y.value)) =
    grind (arith, common_steps) in
    let p : c.with-in-And.result.weight
    ≡ capped (expr_weight (alone_in c.args.lean) (expr_view c.in-And.x.value)
    + expr_weight (alone_in c.args.lean) (expr_view c.in-And.y.value)) = grind
    (arith, common_steps) in
    rw c.in-And.is (built_weight c.args.lean
    (plain.And (expr_view c.in-And.x.value) (expr_view c.in-And.y.value)) _ _ _ _ _ k v p
    c.built-in-And.ensures.weight)

pub weigh-returns-in-Or-clause-weight : goal.weigh-returns-in-Or-clause-weight
weigh-returns-in-Or-clause-weight t c =
    let k : c.with-in-Or.result.constant
    ≡ is_constant (plain.Or (expr_view c.in-Or.x.value) (expr_view c.in-Or.y.value)) =
    grind (arith, common_steps) in
    let v : cell_in c.or_value.result
    ≡ constant_value (plain.Or (expr_view c.in-Or.x.value) (expr_view c.in-Or.y.value)) =
    grind (arith, common_steps) in
    let p : c.with-in-Or.result.weight
    ≡ capped (expr_weight (alone_in c.args.lean) (expr_view c.in-Or.x.value)
    + expr_weight (alone_in c.args.lean) (expr_view c.in-Or.y.value)) = grind
    (arith, common_steps) in
    rw c.in-Or.is (built_weight c.args.lean
    (plain.Or (expr_view c.in-Or.x.value) (expr_view c.in-Or.y.value)) _ _ _ _ _ k v p
    c.built-in-Or.ensures.weight)

pub weigh-returns-in-Cond-clause-weight : goal.weigh-returns-in-Cond-clause-weight
weigh-returns-in-Cond-clause-weight t c =
    let k : c.with-in-Cond-2.result.constant
    ≡ is_constant (plain.Cond (expr_view c.in-Cond.x.value) (expr_view c.in-Cond.y.value)
    (expr_view c.in-Cond.z.value)) = grind (arith, common_steps) in
    let v : cell_in c.choice_value-value.result
    ≡ constant_value (plain.Cond (expr_view c.in-Cond.x.value) (expr_view c.in-Cond.y.value)
    (expr_view c.in-Cond.z.value)) = grind (arith, common_steps) in
    let p : c.with-in-Cond-2.result.weight
    ≡ capped (expr_weight (alone_in c.args.lean) (expr_view c.in-Cond.x.value)
    + (expr_weight (alone_in c.args.lean) (expr_view c.in-Cond.y.value)
    + expr_weight (alone_in c.args.lean) (expr_view c.in-Cond.z.value))) = grind
    (arith, common_steps) in
    rw c.in-Cond.is (built_weight c.args.lean
    (plain.Cond (expr_view c.in-Cond.x.value) (expr_view c.in-Cond.y.value)
    (expr_view c.in-Cond.z.value)) _ _ _ _ _ k v p c.built-in-Cond.ensures.weight)

pub weigh-returns-in-Chain-clause-constant : goal.weigh-returns-in-Chain-clause-constant
weigh-returns-in-Chain-clause-constant t c =
    let e = seen_chain _ c.in-Chain.x c.in-Chain.links c.in-Chain.is in
    let k : c.built-in-Chain.result.share.constant
    ≡ (is_constant (expr_view c.in-Chain.x.value)
    && are_constant (links_view c.in-Chain.links)) = grind (arith, common_steps) in
    k ∙ sym (ap is_constant e)

pub weigh-returns-in-Chain-clause-value : goal.weigh-returns-in-Chain-clause-value
weigh-returns-in-Chain-clause-value t c =
    let e = seen_chain _ c.in-Chain.x c.in-Chain.links c.in-Chain.is in
    let law =
    chain_law (constant_value (expr_view c.in-Chain.x.value)) c.in-Chain.links
    c.is_empty.result c.is_empty.ensures in
    let v : cell_in c.built-in-Chain.result.value
    ≡ links_value (constant_value (expr_view c.in-Chain.x.value))
    (links_view c.in-Chain.links) = grind (arith, common_steps) in
    v ∙ sym (ap constant_value e)

pub weigh-returns-in-Chain-clause-weight : goal.weigh-returns-in-Chain-clause-weight
weigh-returns-in-Chain-clause-weight t c =
    let e = seen_chain _ c.in-Chain.x c.in-Chain.links c.in-Chain.is in
    let law =
    chain_law (constant_value (expr_view c.in-Chain.x.value)) c.in-Chain.links
    c.is_empty.result c.is_empty.ensures in
    let k : c.with-in-Chain.result.constant
    ≡ is_constant (plain.Chain (expr_view c.in-Chain.x.value) (links_view c.in-Chain.links))
    = grind (arith, common_steps) in
    let v : cell_in c.chain_value-value.result
    ≡ constant_value (plain.Chain (expr_view c.in-Chain.x.value)
    (links_view c.in-Chain.links)) = grind (arith, common_steps) in
    let p : c.with-in-Chain.result.weight
    ≡ capped (expr_weight (alone_in c.args.lean) (expr_view c.in-Chain.x.value)
    + links_weight (alone_in c.args.lean) (links_view c.in-Chain.links)) = grind
    (arith, common_steps) in
    rw e (built_weight c.args.lean
    (plain.Chain (expr_view c.in-Chain.x.value) (links_view c.in-Chain.links)) _ _ _ _ _ k v p
    c.built-in-Chain.ensures.weight)

pub weigh-returns-in-Call-clause-weight : goal.weigh-returns-in-Call-clause-weight
weigh-returns-in-Call-clause-weight t c =
    let e : expr_weight (alone_in c.args.lean) (expr_view c.args.expr.now)
    ≡ 40 + sum_by (λ arg. arg_weight (alone_in c.args.lean) (arg_view arg)) c.in-Call.args =
    rw c.in-Call.is (call_weight c.args.lean c.in-Call.field-0 c.in-Call.args) in
    grind (arith, common_steps)

pub weigh-returns-in-Native-clause-weight : goal.weigh-returns-in-Native-clause-weight
weigh-returns-in-Native-clause-weight t c =
    let e : expr_weight (alone_in c.args.lean) (expr_view c.args.expr.now)
    ≡ 40 + sum_by (λ arg. arg_weight (alone_in c.args.lean) (arg_view arg)) c.in-Native.args
    =
    rw c.in-Native.is (native_weight c.args.lean c.in-Native.field-0 c.in-Native.args) in
    grind (arith, common_steps)

pub weigh_links-returns-clause-weight : goal.weigh_links-returns-clause-weight
weigh_links-returns-clause-weight t c =
    let ends =
    chained_ends c.args.lean c.as_slice-items.result.now c.args.first c.loop-i.i
    c.loop-i.constant c.loop-i.holds c.loop-i.left c.loop-i.weight
    c.loop-i.invariant (omega arith) in
    rw c.as_slice-items.ensures at ends.weighed

use Rattle.std.proofs.lemmas.Grind.{common_steps}
use Rattle.std.proofs.Common.{◌≡◌, ◌+◌, ◌-◌, ◌*◌, ◌++◌, ℕ, pos, []}
use Rattle.std.proofs.Common.{◌∷◌, length, sym, ap, subst, ◌∙◌, w32, FitsSigned, arith}
use Rattle.std.proofs.Common.{rules}
use Rattle.std.proofs.lemmas.Int.{to_z-of_z}
use Rattle.pawn_meaning.specs.Scope.{extent, row_extent, rest_extent}
use Rattle.pawn_meaning.specs.Program.{Unary, Binary, Chain, And, Or, Cond}
use Rattle.pawn_meaning.specs.Fold.{fold}
use Rattle.pawn_meaning.specs.View.{scalar_view, array_view, expr_view, args_view, links_view}
use Rattle.amx_ops.specs.declared.op.Op.TheVariants as op
use Rattle.gen_sim.specs.SimpleCode.{alone, taking, prefix_op, const_code}
use Rattle.gen_sim.specs.AccessCode.{load_code, changed_code, turned_code, address_code}
use Rattle.gen_sim.specs.DirectCode.{direct_of}
use Rattle.gen_sim.specs.OperandCode.{right_of}
use Rattle.gen_sim.specs.PushCode.{value_push, place_push, array_push}
use Rattle.gen_sim.specs.JumpCode.{truth_code, choice_code, other_at}
use Rattle.gen_sim.specs.BaseCode.{base_of, base_item, index_begin}
use Rattle.gen_sim.specs.IndexCode.{bounds_code, in_characters, element_code, rest_code, row_code}
use Rattle.gen_sim.specs.CallCode.{one_code, two_code, convert_code}
use Rattle.gen_sim.specs.ChainCode.{link_code}
use Rattle.gen_laws.specs.ExprCode.{known_size, args_items, index_items, place_items}
use Rattle.gen_laws.specs.ExprCode.{array_items, value_items}
use Rattle.gen_expr.specs.Standing.{scope_of}
use Rattle.gen_expr.proofs.GrowLaws.{then_grow, then_ok}
use Rattle.gen_expr.proofs.PartLaws.{keeps_cells}
use Rattle.gen_expr.specs.ChainItems.{chain_items}
use Rattle.gen_expr.specs.DirectView.{perhaps_direct}
use Rattle.gen_expr.specs.BaseView.{perhaps_base}
use Rattle.gen_expr.specs.RightView.{right_view}
use Rattle.gen_expr.specs.PushView.{push_view, perhaps_push}
use Rattle.gen_expr.proofs.TargetLaws.{then_step, then_write, then_update}
use Rattle.gen_expr.proofs.OperandLaws.{operated_waiting, then_operate, pushed_at_once}
use Rattle.gen_expr.proofs.OperandLaws.{pushed_behind, open_node}
use Rattle.gen_expr.proofs.OperandLaws.{constant_put}
use Rattle.gen_expr.proofs.ArgLaws.{arg_grows, none_passed, all_passed, count_is}
use Rattle.gen_expr.proofs.ChainLaws.{some_left, at_last, Linked, none_linked, none_chained}
use Rattle.gen_expr.proofs.ChainLaws.{link_stepped, link_ended, all_in, all_ended_ok}
use Rattle.gen_expr.proofs.NodeLaws.{second_waits, middle_done, last_compared, last_called}
use Rattle.gen_expr.proofs.NodeLaws.{brought_waiting, part_turned}
use Rattle.gen_expr.proofs.NodeLaws.{parts_done, call_done, native_done, then_part, then_both}
use Rattle.gen_expr.proofs.NodeLaws.{then_choice, indexed, then_indexed, array_waits, fetched}
use Rattle.gen_expr.proofs.NodeLaws.{call_seen, native_seen}
use Rattle.gen_expr.proofs.NodeLaws.{chain_seen, chain_open, as_seen}
use Rattle.gen_expr.proofs.emit.+emit.Goals as goal

-- ---- places and arrays

pub start_array-returns-in_ok-code-in-None-clause-code
    : goal.start_array-returns-in_ok-code-in-None-clause-code
start_array-returns-in_ok-code-in-None-clause-code t c =
    let s = scope_of c.args.frame.now in
    let a = array_view c.args.a.now in
    array_waits (base_of s a) c.args.b _ _ (array_items s (4 * length c.args.b.code) a)
    (sym (ap perhaps_base c.in-None.is) ∙ c.in_ok-base_of.ensures)
    c.in_ok-first-in-None.ensures.code
    c.in_ok-code-in-None.ensures

pub index-returns-in_ok-behind-in-Element : goal.index-returns-in_ok-behind-in-Element
index-returns-in_ok-behind-in-Element t c =
    let s = scope_of c.args.frame.now in
    let a = array_view c.in-Element.a.value in
    rw c.in-Element.is (then_indexed (base_of s a) (perhaps_base
    c.in_ok-code-in-Element.field-0.base)
    c.args.b _ _ _ (array_items s (4 * length c.args.b.code) a)
    (λ q. value_items s q (expr_view c.in-Element.e.value)) _ (extent s a)
    (λ k z. bounds_code (known_size z) ++ base_item k ∷ [])
    (rw c.deref.ensures at c.in_ok-code-in-Element.ensures.base)
    (rw c.deref.ensures at c.in_ok-code-in-Element.ensures.code)
    (rw c.deref-in-Element.ensures at c.in_ok-behind-in-Element.ensures)
    (rw c.deref.ensures at c.in_ok-code-in-Element.ensures.reach)
    (rw c.size_of.ensures at c.element.ensures))

pub index-returns-in_ok-behind-in-Char : goal.index-returns-in_ok-behind-in-Char
index-returns-in_ok-behind-in-Char t c =
    let s = scope_of c.args.frame.now in
    let a = array_view c.in-Char.a.value in
    rw c.in-Char.is (then_indexed (base_of s a) (perhaps_base c.in_ok-code-in-Char.field-0.base)
    c.args.b _ _ _ (array_items s (4 * length c.args.b.code) a)
    (λ q. value_items s q (expr_view c.in-Char.e.value)) _ (extent s a)
    (λ k z. bounds_code (in_characters (known_size z))
    ++ (taking op.AlignPri (pos 1) ∷ base_item k ∷ []))
    (rw c.deref-in-Char.ensures at c.in_ok-code-in-Char.ensures.base)
    (rw c.deref-in-Char.ensures at c.in_ok-code-in-Char.ensures.code)
    (rw c.deref-in-Char-2.ensures at c.in_ok-behind-in-Char.ensures)
    (rw c.deref-in-Char.ensures at c.in_ok-code-in-Char.ensures.reach)
    (rw c.characters_of.ensures at c.character.ensures))

pub place-returns : goal.place-returns
place-returns t c =
    let p = scalar_view c.args.p.now in
    then_ok c.args.b _ _ (index_items (scope_of c.args.frame.now) (4 * length c.args.b.code) p)
    (address_code p) c.in_ok-led.ensures c.address.ensures

pub read-returns-in_ok-led-in-None : goal.read-returns-in_ok-led-in-None
read-returns-in_ok-led-in-None t c =
    let s = scope_of c.args.frame.now in
    let p = scalar_view c.args.p.now in
    fetched (direct_of s p) p c.args.b _ _ (index_items s (4 * length c.args.b.code) p)
    (sym (ap perhaps_direct c.in-None.is) ∙ c.in_ok-direct_of.ensures) c.in_ok-led-in-None.ensures
    c.fetch.ensures

pub array-returns-in_ok-done-in-Row-clause-code : goal.array-returns-in_ok-done-in-Row-clause-code
array-returns-in_ok-done-in-Row-clause-code t c =
    let s = scope_of c.args.frame.now in
    let a = array_view c.in-Row.a.value in
    let base = base_of s a in
    let p = 4 * length c.args.b.code in
    let array = array_items s p a in
    let index = λ (q : ℕ). value_items s q (expr_view c.in-Row.e.value) in
    rw c.in-Row.is (then_grow c.args.b _ _
    (element_code base (known_size (extent s a)) array (index (index_begin base p array))) row_code
    (indexed base (perhaps_base c.in_ok-code-in-Row.field-0.base) c.args.b _ _ _ array index _
    (extent s a) (λ k z. bounds_code (known_size z) ++ base_item k ∷ [])
    (rw c.deref.ensures at c.in_ok-code-in-Row.ensures.base)
    (rw c.deref.ensures at c.in_ok-code-in-Row.ensures.code)
    (rw c.deref-in-Row.ensures at c.in_ok-behind-in-Row.ensures)
    (rw c.deref.ensures at c.in_ok-code-in-Row.ensures.reach)
    (rw c.size_of.ensures at c.in_ok-led-in-Row.ensures)) c.in_ok-done-in-Row.ensures)

pub array-returns-in_ok-done-in-Row-clause-reach : goal.array-returns-in_ok-done-in-Row-clause-reach
array-returns-in_ok-done-in-Row-clause-reach t c =
    rw c.in-Row.is (c.row_of.ensures
    ∙ ap row_extent (rw c.deref.ensures at c.in_ok-code-in-Row.ensures.reach))

pub array-returns-in_ok-done-in-From-clause-code : goal.array-returns-in_ok-done-in-From-clause-code
array-returns-in_ok-done-in-From-clause-code t c =
    let s = scope_of c.args.frame.now in
    let a = array_view c.in-From.a.value in
    let base = base_of s a in
    let p = 4 * length c.args.b.code in
    let array = array_items s p a in
    let index = λ (q : ℕ). value_items s q (expr_view c.in-From.e.value) in
    rw c.in-From.is (then_grow c.args.b _ _
    (element_code base (known_size (extent s a)) array (index (index_begin base p array))) rest_code
    (indexed base (perhaps_base c.in_ok-code-in-From.field-0.base) c.args.b _ _ _ array index _
    (extent s a) (λ k z. bounds_code (known_size z) ++ base_item k ∷ [])
    (rw c.deref-in-From.ensures at c.in_ok-code-in-From.ensures.base)
    (rw c.deref-in-From.ensures at c.in_ok-code-in-From.ensures.code)
    (rw c.deref-in-From-2.ensures at c.in_ok-behind-in-From.ensures)
    (rw c.deref-in-From.ensures at c.in_ok-code-in-From.ensures.reach)
    (rw c.size_of-in-From.ensures at c.in_ok-led-in-From.ensures)) c.in_ok-done-in-From.ensures)

pub array-returns-in_ok-done-in-From-clause-reach
    : goal.array-returns-in_ok-done-in-From-clause-reach
array-returns-in_ok-done-in-From-clause-reach t c =
    rw c.in-From.is (c.rest_of.ensures
    ∙ ap rest_extent (rw c.deref-in-From.ensures at c.in_ok-code-in-From.ensures.reach))

-- ---- a second operand

pub beside-returns : goal.beside-returns
beside-returns t c =
    second_waits c.args.b c.in_ok-waits.waits c.in_ok-both.both
    (λ q. value_items (scope_of c.args.frame.now) q (expr_view c.args.e.now))
    c.in_ok-waits.ensures c.in_ok-both.ensures

pub array_beside-returns : goal.array_beside-returns
array_beside-returns t c =
    second_waits c.args.b c.in_ok-waits.waits c.in_ok-both.both
    (λ q. array_items (scope_of c.args.frame.now) q (array_view c.args.a.now))
    c.in_ok-waits.ensures c.in_ok-both.ensures.code

-- ---- an operator behind its left operand

pub operate-returns-in_ok-moved-in-Waiting : goal.operate-returns-in_ok-moved-in-Waiting
operate-returns-in_ok-moved-in-Waiting t c =
    operated_waiting c.args.o (right_view c.args.how)
    (value_items (scope_of c.args.frame.now) (4 * length c.args.b.code) (expr_view c.args.e.now))
    c.args.b c.in_ok-right-in-Waiting.right c.in_ok-moved-in-Waiting.moved _
    (ap right_view c.in-Waiting.is) c.in_ok-right-in-Waiting.ensures
    c.in_ok-moved-in-Waiting.ensures c.operator.ensures

-- ---- what is pushed

pub arguments::push_value-returns-in-Some : goal.arguments::push_value-returns-in-Some
arguments::push_value-returns-in-Some t c =
    let s = scope_of c.args.frame.now in
    let it = expr_view c.args.e.now in
    pushed_at_once (value_push s it) (push_view c.in-Some.push)
    (value_items s (4 * length c.args.b.code) it) c.args.b _
    (sym (ap perhaps_push c.in-Some.is) ∙ c.in_ok-push.ensures) c.append.ensures

pub arguments::push_value-returns-in_ok-part-in-None : goal.arguments::push_value-returns-in_ok-part-in-None
arguments::push_value-returns-in_ok-part-in-None t c =
    let s = scope_of c.args.frame.now in
    let it = expr_view c.args.e.now in
    pushed_behind (value_push s it) (value_items s (4 * length c.args.b.code) it) c.args.b
    c.in_ok-part-in-None.part _ (sym (ap perhaps_push c.in-None.is) ∙ c.in_ok-push.ensures)
    c.in_ok-part-in-None.ensures c.put.ensures

pub arguments::push_place-returns-in-Some : goal.arguments::push_place-returns-in-Some
arguments::push_place-returns-in-Some t c =
    let s = scope_of c.args.frame.now in
    let it = scalar_view c.args.p.now in
    pushed_at_once (place_push s it) (push_view c.in-Some.push)
    (place_items s (4 * length c.args.b.code) it) c.args.b _
    (sym (ap perhaps_push c.in-Some.is) ∙ c.in_ok-push.ensures) c.append.ensures

pub arguments::push_place-returns-in_ok-part-in-None : goal.arguments::push_place-returns-in_ok-part-in-None
arguments::push_place-returns-in_ok-part-in-None t c =
    let s = scope_of c.args.frame.now in
    let it = scalar_view c.args.p.now in
    pushed_behind (place_push s it) (place_items s (4 * length c.args.b.code) it) c.args.b
    c.in_ok-part-in-None.part _ (sym (ap perhaps_push c.in-None.is) ∙ c.in_ok-push.ensures)
    c.in_ok-part-in-None.ensures c.put.ensures

pub arguments::push_array-returns-in-Some : goal.arguments::push_array-returns-in-Some
arguments::push_array-returns-in-Some t c =
    let s = scope_of c.args.frame.now in
    let it = array_view c.args.a.now in
    pushed_at_once (array_push s it) (push_view c.in-Some.push)
    (array_items s (4 * length c.args.b.code) it) c.args.b _
    (sym (ap perhaps_push c.in-Some.is) ∙ c.in_ok-push.ensures) c.append.ensures

pub arguments::push_array-returns-in_ok-part-in-None : goal.arguments::push_array-returns-in_ok-part-in-None
arguments::push_array-returns-in_ok-part-in-None t c =
    let s = scope_of c.args.frame.now in
    let it = array_view c.args.a.now in
    pushed_behind (array_push s it) (array_items s (4 * length c.args.b.code) it) c.args.b
    c.in_ok-part-in-None.part _ (sym (ap perhaps_push c.in-None.is) ∙ c.in_ok-push.ensures)
    c.in_ok-part-in-None.ensures.code c.put.ensures

-- ---- values

pub value-returns-in-Some : goal.value-returns-in-Some
value-returns-in-Some t c =
    let f : FitsSigned w32 c.in-Some.v = search rules in
    constant_put (scope_of c.args.frame.now) (expr_view c.args.e.now) c.in-Some.v c.args.b _
    (sym c.folded.ensures ∙ c.in-Some.is) (rw (to_z-of_z w32 c.in-Some.v f) at c.constant.ensures)

pub node-returns-in-Read : goal.node-returns-in-Read
node-returns-in-Read t c = rw c.in-Read.is c.read.ensures

pub node-returns-in-Unary : goal.node-returns-in-Unary
node-returns-in-Unary t c =
    rw c.in-Unary.is (rw c.deref.ensures at c.unary.ensures)

pub node-returns-in-Binary : goal.node-returns-in-Binary
node-returns-in-Binary t c =
    rw c.in-Binary.is (rw c.deref-in-Binary.ensures at (rw c.deref-in-Binary-2.ensures at c.binary.ensures))

pub node-returns-in-And : goal.node-returns-in-And
node-returns-in-And t c =
    rw c.in-And.is (rw c.deref-in-And.ensures at (rw c.deref-in-And-2.ensures at c.conjunction.ensures))

pub node-returns-in-Or : goal.node-returns-in-Or
node-returns-in-Or t c =
    rw c.in-Or.is (rw c.deref-in-Or.ensures at (rw c.deref-in-Or-2.ensures at c.disjunction.ensures))

pub node-returns-in-Cond : goal.node-returns-in-Cond
node-returns-in-Cond t c =
    rw c.in-Cond.is (rw c.deref-in-Cond.ensures at (rw c.deref-in-Cond-2.ensures at (rw c.deref-in-Cond-3.ensures at c.choice.ensures)))

pub node-returns-in-Assign : goal.node-returns-in-Assign
node-returns-in-Assign t c =
    rw c.in-Assign.is (rw c.deref-in-Assign.ensures at c.assignment.ensures)

pub node-returns-in-Update : goal.node-returns-in-Update
node-returns-in-Update t c =
    rw c.in-Update.is (rw c.deref-in-Update.ensures at c.updating.ensures)

pub node-returns-in-UpdateBy : goal.node-returns-in-UpdateBy
node-returns-in-UpdateBy t c =
    rw c.in-UpdateBy.is (rw c.deref-in-UpdateBy.ensures at c.user_update.ensures)

pub node-returns-in-Step : goal.node-returns-in-Step
node-returns-in-Step t c =
    let f : FitsSigned w32 c.in-Step.delta = search rules in
    rw c.in-Step.is (rw (to_z-of_z w32 c.in-Step.delta f) at c.one_step.ensures)

pub node-returns-in-StepBy : goal.node-returns-in-StepBy
node-returns-in-StepBy t c =
    rw c.in-StepBy.is c.user_step.ensures

pub node-returns-in-Copy : goal.node-returns-in-Copy
node-returns-in-Copy t c =
    rw c.in-Copy.is (rw c.deref-in-Copy.ensures at (rw c.deref-in-Copy-2.ensures at c.array_copy.ensures))

pub node-returns-in-Operate : goal.node-returns-in-Operate
node-returns-in-Operate t c =
    rw c.in-Operate.is (rw c.deref-in-Operate.ensures at (rw c.deref-in-Operate-2.ensures at c.user_operator.ensures))

pub node-returns-in-OperateOne : goal.node-returns-in-OperateOne
node-returns-in-OperateOne t c =
    rw c.in-OperateOne.is (rw c.deref-in-OperateOne.ensures at c.user_prefix.ensures)

pub node-returns-in-Seq : goal.node-returns-in-Seq
node-returns-in-Seq t c =
    rw c.in-Seq.is (rw c.deref-in-Seq.ensures at (rw c.deref-in-Seq-2.ensures at c.sequence.ensures))

pub node-returns-in_ok-value-in-Chain : goal.node-returns-in_ok-value-in-Chain
node-returns-in_ok-value-in-Chain t c =
    let s = scope_of c.args.frame.now in
    let p = 4 * length c.args.b.code in
    as_seen _ c.args.b _ _ (chain_seen s p c.args.e.now c.in-Chain.x c.in-Chain.links c.in-Chain.is)
    (open_node (fold (Chain (expr_view c.in-Chain.x.value) (links_view c.in-Chain.links))) _
    c.args.b _
    (chain_open c.args.e.now c.in-Chain.x c.in-Chain.links c.in-Chain.is c.requires.open)
    (then_part c.args.b _ _ (value_items s p (expr_view c.in-Chain.x.value))
    (λ q. chain_items s q (links_view c.in-Chain.links))
    (rw c.deref-in-Chain.ensures at c.in_ok-value-in-Chain.ensures) c.chain.ensures))

pub node-returns-in-Call : goal.node-returns-in-Call
node-returns-in-Call t c =
    as_seen _ c.args.b _ _ (call_seen (scope_of c.args.frame.now)
    (4 * length c.args.b.code) c.args.e.now c.in-Call.f c.in-Call.args c.in-Call.is)
    c.called.ensures

pub node-returns-in-Native : goal.node-returns-in-Native
node-returns-in-Native t c =
    as_seen _ c.args.b _ _ (native_seen (scope_of c.args.frame.now)
    (4 * length c.args.b.code) c.args.e.now c.in-Native.n c.in-Native.args c.in-Native.is)
    c.native_called.ensures

-- ---- nodes by their parts

pub nodes::unary-returns : goal.nodes::unary-returns
nodes::unary-returns t c =
    let s = scope_of c.args.frame.now in
    let x = expr_view c.args.x.now in
    open_node (fold (Unary c.args.o x)) _ c.args.b _ c.requires.open
    (then_ok c.args.b _ _ (value_items s (4 * length c.args.b.code) x)
    (alone (prefix_op c.args.o) ∷ []) c.in_ok-value.ensures c.prefix.ensures)

pub nodes::binary-returns : goal.nodes::binary-returns
nodes::binary-returns t c =
    let s = scope_of c.args.frame.now in
    let l = expr_view c.args.x.now in
    let r = expr_view c.args.y.now in
    open_node (fold (Binary c.args.o l r)) _ c.args.b _ c.requires.open
    (then_operate c.args.o (right_view c.in_ok-how.how) (right_of s r) c.args.b _ _
    (value_push s l) (value_items s (4 * length c.args.b.code) l) (λ q. value_items s q r)
    c.in_ok-how.ensures c.in_ok-first.ensures c.operate.ensures)

pub nodes::conjunction-returns : goal.nodes::conjunction-returns
nodes::conjunction-returns t c =
    let s = scope_of c.args.frame.now in
    let l = expr_view c.args.x.now in
    let r = expr_view c.args.y.now in
    open_node (fold (And l r)) _ c.args.b _ c.requires.open
    (then_part c.args.b _ _ (value_items s (4 * length c.args.b.code) l)
    (λ q. choice_code q (value_items s (q + 8) r ++ truth_code) (const_code (pos 0)))
    c.in_ok-value.ensures c.and_then.ensures)

pub nodes::disjunction-returns : goal.nodes::disjunction-returns
nodes::disjunction-returns t c =
    let s = scope_of c.args.frame.now in
    let l = expr_view c.args.x.now in
    let r = expr_view c.args.y.now in
    open_node (fold (Or l r)) _ c.args.b _ c.requires.open
    (then_part c.args.b _ _ (value_items s (4 * length c.args.b.code) l)
    (λ q. choice_code q (const_code (pos 1))
    (value_items s (other_at q (const_code (pos 1))) r ++ truth_code))
    c.in_ok-value.ensures c.or_else.ensures)

pub nodes::choice-returns : goal.nodes::choice-returns
nodes::choice-returns t c =
    let s = scope_of c.args.frame.now in
    let test = expr_view c.args.c.now in
    let x = expr_view c.args.x.now in
    let y = expr_view c.args.y.now in
    open_node (fold (Cond test x y)) _ c.args.b _ c.requires.open
    (then_choice c.args.b _ c.in_ok-opened.opened c.in_ok-second.second _
    (value_items s (4 * length c.args.b.code) test)
    (λ q. value_items s q x) (λ q. value_items s q y) c.in_ok-end.end
    c.in_ok-value.ensures c.in_ok-opened.ensures c.in_ok-end.ensures
    c.in_ok-second.ensures c.land.ensures)

pub nodes::assignment-returns : goal.nodes::assignment-returns
nodes::assignment-returns t c =
    let s = scope_of c.args.frame.now in
    let p = scalar_view c.args.p.now in
    let e = expr_view c.args.x.now in
    then_write (direct_of s p) _ _ (right_of s e) _
    p c.args.b _ _ _ (place_items s (4 * length c.args.b.code) p) (λ q. value_items s q e)
    c.in_ok-target.ensures.direct (ap perhaps_direct c.in_ok-operand.ensures.direct)
    c.in_ok-operand.ensures.how c.in_ok-target.ensures.code c.in_ok-operand.ensures.code
    c.write.ensures

pub nodes::updating-returns : goal.nodes::updating-returns
nodes::updating-returns t c =
    let s = scope_of c.args.frame.now in
    let p = scalar_view c.args.p.now in
    let e = expr_view c.args.x.now in
    then_update (direct_of s p) _ _ (right_of s e) _
    p c.args.o c.args.b _ _ _ (place_items s (4 * length c.args.b.code) p)
    (λ q. value_items s q e)
    c.in_ok-target.ensures.direct (ap perhaps_direct c.in_ok-valued.ensures.direct)
    c.in_ok-valued.ensures.how c.in_ok-target.ensures.code c.in_ok-valued.ensures.code
    c.update.ensures

pub nodes::user_update-returns : goal.nodes::user_update-returns
nodes::user_update-returns t c =
    let s = scope_of c.args.frame.now in
    let p = scalar_view c.args.p.now in
    then_both c.args.b _ _ _ (place_items s (4 * length c.args.b.code) p)
    (alone op.PopAlt ∷ changed_code p
    (two_code c.args.by.function c.args.by.swapped ++ convert_code c.args.by.convert))
    (λ q. value_items s q (expr_view c.args.x.now))
    c.in_ok-place.ensures c.in_ok-both.ensures c.updated_by.ensures

pub nodes::one_step-returns : goal.nodes::one_step-returns
nodes::one_step-returns t c =
    let s = scope_of c.args.frame.now in
    let p = scalar_view c.args.p.now in
    let f : FitsSigned w32 c.args.delta = search rules in
    then_step (direct_of s p) _ p c.args.delta c.args.first c.args.b _ _
    (place_items s (4 * length c.args.b.code) p)
    c.in_ok-target.ensures.direct c.in_ok-target.ensures.code
    (rw (to_z-of_z w32 c.args.delta f) at c.step.ensures)

pub nodes::user_step-returns : goal.nodes::user_step-returns
nodes::user_step-returns t c =
    let s = scope_of c.args.frame.now in
    let p = scalar_view c.args.p.now in
    then_ok c.args.b _ _ (place_items s (4 * length c.args.b.code) p)
    (alone op.MoveAlt ∷ (load_code p ++ turned_code p (one_code c.args.f) c.args.first))
    c.in_ok-place.ensures c.turned.ensures

pub nodes::array_copy-returns : goal.nodes::array_copy-returns
nodes::array_copy-returns t c =
    let s = scope_of c.args.frame.now in
    then_both c.args.b _ _ _ (array_items s (4 * length c.args.b.code) (array_view c.args.to.now))
    (alone op.PopAlt ∷ taking op.Movs (pos (4 * c.args.n)) ∷ alone op.ZeroPri ∷ [])
    (λ q. array_items s q (array_view c.args.from.now))
    c.in_ok-first.ensures.code c.in_ok-array_beside.ensures c.copy.ensures

pub nodes::user_operator-returns : goal.nodes::user_operator-returns
nodes::user_operator-returns t c =
    let s = scope_of c.args.frame.now in
    then_both c.args.b _ _ _
    (value_items s (4 * length c.args.b.code) (expr_view c.args.x.now))
    (alone op.PopAlt ∷ two_code c.args.f c.args.swapped)
    (λ q. value_items s q (expr_view c.args.y.now))
    c.in_ok-value.ensures c.in_ok-beside.ensures c.operated.ensures

pub nodes::user_prefix-returns : goal.nodes::user_prefix-returns
nodes::user_prefix-returns t c =
    let s = scope_of c.args.frame.now in
    then_ok c.args.b _ _ (value_items s (4 * length c.args.b.code) (expr_view c.args.x.now))
    (one_code c.args.f) c.in_ok-value.ensures c.one.ensures

pub nodes::sequence-returns : goal.nodes::sequence-returns
nodes::sequence-returns t c =
    let s = scope_of c.args.frame.now in
    then_part c.args.b _ _ (value_items s (4 * length c.args.b.code) (expr_view c.args.x.now))
    (λ q. value_items s q (expr_view c.args.y.now)) c.in_ok-value.ensures c.value-2.ensures

pub nodes::choice-land-requires : goal.nodes::choice-land-requires
nodes::choice-land-requires t c =
    omega (
      arith,
      c.in_ok-end.ensures,
      keeps_cells c.in_ok-opened.opened c.in_ok-second.second
          (value_items (scope_of c.args.frame.now) (4 * length c.in_ok-opened.opened.code)
          (expr_view c.args.y.now)) c.in_ok-second.ensures,
    )

-- ---- jumps

pub first_part-turn-requires : goal.first_part-turn-requires
first_part-turn-requires t c =
    omega (
      arith,
      c.in_ok-other.ensures,
      keeps_cells c.in_ok-tested.tested c.in_ok-first.first
          (value_items (scope_of c.args.frame.now) (4 * length c.in_ok-tested.tested.code)
          (expr_view c.args.x.now)) c.in_ok-first.ensures,
    )

pub first_part-returns : goal.first_part-returns
first_part-returns t c =
    part_turned c.args.b c.in_ok-tested.tested c.in_ok-first.first c.in_ok-opened.opened
    (λ q. value_items (scope_of c.args.frame.now) q (expr_view c.args.x.now)) c.in_ok-other.other
    c.in_ok-tested.ensures c.in_ok-other.ensures c.in_ok-first.ensures c.in_ok-opened.ensures

pub and_then-turn-requires : goal.and_then-turn-requires
and_then-turn-requires t c =
    let part =
    value_items (scope_of c.args.frame.now) (4 * length c.in_ok-tested.tested.code)
    (expr_view c.args.y.now) in
    omega (
      arith,
      c.in_ok-other.ensures,
      keeps_cells c.in_ok-tested.tested c.in_ok-part.part part c.in_ok-part.ensures,
      keeps_cells c.in_ok-part.part c.in_ok-first.first truth_code c.in_ok-first.ensures,
    )

pub and_then-land-requires : goal.and_then-land-requires
and_then-land-requires t c =
    omega (
      arith,
      c.in_ok-end.ensures,
      keeps_cells c.in_ok-opened.opened c.in_ok-second.second
          (const_code (pos 0)) c.in_ok-second.ensures,
    )

pub and_then-returns : goal.and_then-returns
and_then-returns t c =
    let part = λ (q : ℕ). value_items (scope_of c.args.frame.now) q (expr_view c.args.y.now) in
    parts_done c.args.b c.in_ok-tested.tested c.in_ok-first.first c.in_ok-opened.opened
    c.in_ok-second.second c.in_ok-done.done
    (λ q. part q ++ truth_code) (λ q. const_code (pos 0)) c.in_ok-other.other c.in_ok-end.end
    c.in_ok-tested.ensures c.in_ok-other.ensures
    (then_grow c.in_ok-tested.tested c.in_ok-part.part c.in_ok-first.first
    (part (4 * length c.in_ok-tested.tested.code)) truth_code
    c.in_ok-part.ensures c.in_ok-first.ensures)
    c.in_ok-opened.ensures c.in_ok-end.ensures c.in_ok-second.ensures c.in_ok-done.ensures

pub or_else-turn-requires : goal.or_else-turn-requires
or_else-turn-requires t c =
    omega (
      arith,
      c.in_ok-other.ensures,
      keeps_cells c.in_ok-tested.tested c.in_ok-first.first
          (const_code (pos 1)) c.in_ok-first.ensures,
    )

pub or_else-land-requires : goal.or_else-land-requires
or_else-land-requires t c =
    let part =
    value_items (scope_of c.args.frame.now) (4 * length c.in_ok-opened.opened.code)
    (expr_view c.args.y.now) in
    omega (
      arith,
      c.in_ok-end.ensures,
      keeps_cells c.in_ok-opened.opened c.in_ok-part.part part c.in_ok-part.ensures,
      keeps_cells c.in_ok-part.part c.in_ok-second.second truth_code c.in_ok-second.ensures,
    )

pub or_else-returns : goal.or_else-returns
or_else-returns t c =
    let part = λ (q : ℕ). value_items (scope_of c.args.frame.now) q (expr_view c.args.y.now) in
    parts_done c.args.b c.in_ok-tested.tested c.in_ok-first.first c.in_ok-opened.opened
    c.in_ok-second.second c.in_ok-done.done
    (λ q. const_code (pos 1)) (λ q. part q ++ truth_code) c.in_ok-other.other c.in_ok-end.end
    c.in_ok-tested.ensures c.in_ok-other.ensures c.in_ok-first.ensures c.in_ok-opened.ensures
    c.in_ok-end.ensures
    (then_grow c.in_ok-opened.opened c.in_ok-part.part c.in_ok-second.second
    (part (4 * length c.in_ok-opened.opened.code)) truth_code
    c.in_ok-part.ensures c.in_ok-second.ensures) c.in_ok-done.ensures

-- ---- chains

pub links::middle-returns : goal.links::middle-returns
links::middle-returns t c =
    middle_done c.args.b c.in_ok-both.both c.in_ok-waits.waits c.in_ok-tested.tested
    c.in_ok-jumped.jumped c.in_ok-done.done
    (value_items (scope_of c.args.frame.now) (4 * length c.args.b.code + 4)
    (expr_view c.args.link.now.operand))
    (link_code c.args.link.now.op c.args.link.now.function c.args.link.now.swapped)
    c.in_ok-both.ensures c.in_ok-waits.ensures c.in_ok-tested.ensures c.in_ok-jumped.ensures
    c.in_ok-done.ensures

pub links::last-returns-in_ok-brought-in-None : goal.links::last-returns-in_ok-brought-in-None
links::last-returns-in_ok-brought-in-None t c =
    let s = scope_of c.args.frame.now in
    let e = expr_view c.args.link.now.operand in
    last_compared c.args.link.now.op c.args.link.now.function c.args.link.now.swapped
    (right_of s e) (right_view c.in_ok-how-in-None.how)
    (value_items s (4 * length c.args.b.code + 4) e) c.args.b c.in_ok-brought-in-None.brought _
    c.in-None.is c.in_ok-how-in-None.ensures c.in_ok-brought-in-None.ensures
    c.compare_by.ensures

pub links::last-returns-in_ok-waits-in-Some : goal.links::last-returns-in_ok-waits-in-Some
links::last-returns-in_ok-waits-in-Some t c =
    let s = scope_of c.args.frame.now in
    let e = expr_view c.args.link.now.operand in
    last_called c.args.link.now.op c.args.link.now.function c.in-Some.f c.args.link.now.swapped
    (right_of s e) (value_items s (4 * length c.args.b.code + 4) e) c.args.b
    c.in_ok-both-in-Some.both c.in_ok-waits-in-Some.waits _
    c.in-Some.is c.in_ok-both-in-Some.ensures c.in_ok-waits-in-Some.ensures c.two_by.ensures

pub links::bring-returns-in_ok-both-in-Waiting : goal.links::bring-returns-in_ok-both-in-Waiting
links::bring-returns-in_ok-both-in-Waiting t c =
    brought_waiting (right_view c.args.how)
    (value_items (scope_of c.args.frame.now) (4 * length c.args.b.code + 4)
    (expr_view c.args.e.now)) c.args.b c.in_ok-both-in-Waiting.both _
    (ap right_view c.in-Waiting.is) c.in_ok-both-in-Waiting.ensures c.put-in-Waiting.ensures

pub links::chain-returns-then-is_empty : goal.links::chain-returns-then-is_empty
links::chain-returns-then-is_empty t c =
    let none : length c.as_slice-items.result.now ≡ 0 = grind (arith, common_steps) in
    rw (sym c.as_slice-items.ensures)
    (none_chained (scope_of c.args.frame.now) c.args.b c.as_slice-items.result.now none)

pub links::chain-loop-i-init : goal.links::chain-loop-i-init
links::chain-loop-i-init t c =
    let s = scope_of c.args.frame.now in
    let all = links_view c.as_slice-items.result.now in
    subst (λ h. Linked s c.args.b all c.args.b h all) (sym c.new-holes.ensures)
    (none_linked s c.args.b all)

pub links::chain-loop-i-preserved : goal.links::chain-loop-i-preserved
links::chain-loop-i-preserved t c =
    link_stepped (scope_of c.args.frame.now) c.args.b c.loop-i.grown c.in_ok-next.next
    c.loop-i.holes c.as_slice-items.result.now c.loop-i.i
    c.index-items-i.result c.in_ok-hole.hole _ (omega arith) c.index-items-i.is c.loop-i.invariant
    c.in_ok-next.ensures c.in_ok-hole.ensures
    c.in_ok-push.ensures.ok

pub links::chain-ended-requires : goal.links::chain-ended-requires
links::chain-ended-requires t c =
    let some =
    some_left c.as_slice-items.result.now c.is_empty.result c.is_empty.ensures
    c.if-is_empty.false in
    let last : length c.as_slice-items.result.now - 1 ≡ c.loop-i.i = omega (arith, some) in
    rw c.as_slice.ensures (all_in (scope_of c.args.frame.now) c.args.b
    (links_view c.as_slice-items.result.now) c.in_ok-linked.linked c.loop-i.holes
    (link_ended (scope_of c.args.frame.now) c.args.b c.loop-i.grown c.in_ok-linked.linked
    c.loop-i.holes c.as_slice-items.result.now c.loop-i.i
    c.index-items-end.result (omega (arith, some))
    (at_last c.as_slice-items.result.now c.loop-i.i c.index-items-end.result last
    c.index-items-end.is) c.loop-i.invariant c.in_ok-linked.ensures))

pub links::chain-returns : goal.links::chain-returns
links::chain-returns t c =
    let some =
    some_left c.as_slice-items.result.now c.is_empty.result c.is_empty.ensures
    c.if-is_empty.false in
    let last : length c.as_slice-items.result.now - 1 ≡ c.loop-i.i = omega (arith, some) in
    rw (sym c.as_slice-items.ensures)
    (all_ended_ok (scope_of c.args.frame.now) c.args.b
    (links_view c.as_slice-items.result.now) c.in_ok-linked.linked
    c.ended.result c.loop-i.holes
    (link_ended (scope_of c.args.frame.now) c.args.b c.loop-i.grown c.in_ok-linked.linked
    c.loop-i.holes c.as_slice-items.result.now c.loop-i.i
    c.index-items-end.result (omega (arith, some))
    (at_last c.as_slice-items.result.now c.loop-i.i c.index-items-end.result last
    c.index-items-end.is) c.loop-i.invariant c.in_ok-linked.ensures)
    (rw c.as_slice.ensures at c.ended.ensures))

-- ---- arguments

pub arguments::argument-returns-in_ok-value-in-Temp : goal.arguments::argument-returns-in_ok-value-in-Temp
arguments::argument-returns-in_ok-value-in-Temp t c =
    let s = scope_of c.args.frame.now in
    rw c.in-Temp.is (then_ok c.args.b _ _
    (value_items s (4 * length c.args.b.code) (expr_view c.in-Temp.e))
    (taking op.Heap (pos 4) ∷ alone op.StorI ∷ alone op.PushAlt ∷ []) c.in_ok-value-in-Temp.ensures
    c.temporary.ensures)

pub arguments::arguments-loop-passed-init : goal.arguments::arguments-loop-passed-init
arguments::arguments-loop-passed-init t c =
    none_passed (scope_of c.args.frame.now) c.args.b c.as_slice-items.result.now

pub arguments::arguments-loop-passed-preserved : goal.arguments::arguments-loop-passed-preserved
arguments::arguments-loop-passed-preserved t c =
    arg_grows (scope_of c.args.frame.now) c.args.b c.loop-passed.grown c.in_ok-next.next
    c.as_slice-items.result.now
    c.loop-passed.passed c.index-items-at.result
    (omega arith) c.index-items-at.is c.loop-passed.invariant c.in_ok-next.ensures

pub arguments::arguments-returns : goal.arguments::arguments-returns
arguments::arguments-returns t c =
    rw (sym c.as_slice-items.ensures)
    (all_passed (scope_of c.args.frame.now) c.args.b c.loop-passed.grown
    c.as_slice-items.result.now c.loop-passed.passed
    (omega arith) c.loop-passed.invariant)

pub arguments::called-returns : goal.arguments::called-returns
arguments::called-returns t c =
    call_done c.args.b c.in_ok-pushed.pushed c.in_ok-done.done c.in_ok-cleared.cleared
    (args_items (scope_of c.args.frame.now) (4 * length c.args.b.code)
    (args_view c.args.args.now)) c.args.f c.in_ok-count.count c.in_ok-cells.cells
    _ _
    (c.in_ok-count.ensures ∙ c.len.ensures ∙ sym (count_is c.args.args.now))
    (rw c.as_slice.ensures at c.in_ok-cells.ensures)
    c.in_ok-pushed.ensures c.in_ok-done.ensures c.in_ok-cleared.ensures

pub arguments::native_called-returns : goal.arguments::native_called-returns
arguments::native_called-returns t c =
    native_done c.args.b c.in_ok-pushed.pushed c.in_ok-done.done c.in_ok-cleared.cleared
    (args_items (scope_of c.args.frame.now) (4 * length c.args.b.code)
    (args_view c.args.args.now)) c.args.n c.in_ok-count.count c.in_ok-cells.cells
    _ _
    (c.in_ok-count.ensures ∙ c.len.ensures ∙ sym (count_is c.args.args.now))
    (rw c.as_slice.ensures at c.in_ok-cells.ensures)
    c.in_ok-pushed.ensures c.in_ok-done.ensures c.in_ok-cleared.ensures

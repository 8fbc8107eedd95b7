use Rattle.std.proofs.Common.{◌≡◌, ◌+◌, ◌-◌, ◌*◌, length, drop, max}
use Rattle.pawn_meaning.specs.View.{args_view, links_view}
use Rattle.pawn_meaning.specs.declared.node.Scalar.{size-Scalar}
use Rattle.pawn_meaning.specs.declared.node.Array.{size-Array}
use Rattle.pawn_meaning.specs.declared.node.Expr.{size-Expr}
use Rattle.gen_laws.specs.ExprCode.{args_items}
use Rattle.gen_expr.specs.Built.{with_items}
use Rattle.gen_expr.specs.Standing.{scope_of}
use Rattle.gen_expr.proofs.ChainLaws.{Linked}
use Rattle.gen_expr.proofs.emit.+emit.Given as goal

abbrev pub invariant-links::chain-loop-i : goal.invariant-links::chain-loop-i
invariant-links::chain-loop-i l =
    Linked (scope_of l.frame) l.fn.b (links_view l.items) l.grown l.holes
    (links_view (drop l.i l.items))

abbrev pub invariant-arguments::arguments-loop-passed : goal.invariant-arguments::arguments-loop-passed
invariant-arguments::arguments-loop-passed l =
    l.grown ≡ with_items (args_items (scope_of l.frame) (4 * length l.fn.b.code)
    (args_view (drop (length l.items - l.passed) l.items))) l.fn.b

-- ---- that it ends: each part has a smaller depth than its node, and a function that is handed the
-- same part as its caller stands below it

abbrev pub decreases-node : goal.decreases-node
decreases-node l = 8 * goal.size-node l

abbrev pub decreases-value : goal.decreases-value
decreases-value l = 8 * goal.size-value l + 1

abbrev pub decreases-array : goal.decreases-array
decreases-array l = 8 * goal.size-array l

abbrev pub decreases-start_array : goal.decreases-start_array
decreases-start_array l = 8 * goal.size-start_array l + 1

abbrev pub decreases-index : goal.decreases-index
decreases-index l = 8 * goal.size-index l

abbrev pub decreases-place : goal.decreases-place
decreases-place l = 8 * goal.size-place l + 1

abbrev pub decreases-read : goal.decreases-read
decreases-read l = 8 * goal.size-read l + 1

abbrev pub decreases-array_beside : goal.decreases-array_beside
decreases-array_beside l = 8 * goal.size-array_beside l + 1

abbrev pub decreases-beside : goal.decreases-beside
decreases-beside l = 8 * goal.size-beside l + 2

abbrev pub decreases-left : goal.decreases-left
decreases-left l = 8 * goal.size-left l + 3

abbrev pub decreases-operate : goal.decreases-operate
decreases-operate l = 8 * goal.size-operate l + 2

abbrev pub decreases-target : goal.decreases-target
decreases-target l = 8 * goal.size-target l + 2

abbrev pub decreases-beside_address : goal.decreases-beside_address
decreases-beside_address l = 8 * goal.size-beside_address l + 3

abbrev pub decreases-operand : goal.decreases-operand
decreases-operand l = 8 * goal.size-operand l + 4

abbrev pub decreases-waiting_operand : goal.decreases-waiting_operand
decreases-waiting_operand l = 8 * goal.size-waiting_operand l + 3

abbrev pub decreases-update_operand : goal.decreases-update_operand
decreases-update_operand l = 8 * goal.size-update_operand l + 4

abbrev pub decreases-and_then : goal.decreases-and_then
decreases-and_then l = 8 * goal.size-and_then l + 2

abbrev pub decreases-or_else : goal.decreases-or_else
decreases-or_else l = 8 * goal.size-or_else l + 2

abbrev pub decreases-first_part : goal.decreases-first_part
decreases-first_part l = 8 * goal.size-first_part l + 2

abbrev pub decreases-arguments::push_value : goal.decreases-arguments::push_value
decreases-arguments::push_value l = 8 * goal.size-arguments::push_value l + 2

abbrev pub decreases-arguments::push_place : goal.decreases-arguments::push_place
decreases-arguments::push_place l = 8 * goal.size-arguments::push_place l + 2

abbrev pub decreases-arguments::push_array : goal.decreases-arguments::push_array
decreases-arguments::push_array l = 8 * goal.size-arguments::push_array l + 1

abbrev pub decreases-arguments::argument : goal.decreases-arguments::argument
decreases-arguments::argument l = 8 * goal.size-arguments::argument l

abbrev pub decreases-arguments::arguments : goal.decreases-arguments::arguments
decreases-arguments::arguments l = 8 * goal.size-arguments::arguments l + 1

abbrev pub decreases-arguments::called : goal.decreases-arguments::called
decreases-arguments::called l = 8 * goal.size-arguments::called l + 2

abbrev pub decreases-arguments::native_called : goal.decreases-arguments::native_called
decreases-arguments::native_called l = 8 * goal.size-arguments::native_called l + 2

abbrev pub decreases-links::middle : goal.decreases-links::middle
decreases-links::middle l = 8 * goal.size-links::middle l

abbrev pub decreases-links::last : goal.decreases-links::last
decreases-links::last l = 8 * goal.size-links::last l

abbrev pub decreases-links::bring : goal.decreases-links::bring
decreases-links::bring l = 8 * goal.size-links::bring l + 3

abbrev pub decreases-links::chain : goal.decreases-links::chain
decreases-links::chain l = 8 * goal.size-links::chain l + 1

abbrev pub decreases-nodes::unary : goal.decreases-nodes::unary
decreases-nodes::unary l = 8 * goal.size-nodes::unary l + 5

abbrev pub decreases-nodes::one_step : goal.decreases-nodes::one_step
decreases-nodes::one_step l = 8 * goal.size-nodes::one_step l + 5

abbrev pub decreases-nodes::user_step : goal.decreases-nodes::user_step
decreases-nodes::user_step l = 8 * goal.size-nodes::user_step l + 5

abbrev pub decreases-nodes::user_prefix : goal.decreases-nodes::user_prefix
decreases-nodes::user_prefix l = 8 * goal.size-nodes::user_prefix l + 5

-- ---- nodes by their parts

abbrev pub decreases-nodes::binary : goal.decreases-nodes::binary
decreases-nodes::binary l = 8 * max (size-Expr l.x.now) (size-Expr l.y.now) + 5

abbrev pub decreases-nodes::conjunction : goal.decreases-nodes::conjunction
decreases-nodes::conjunction l = 8 * max (size-Expr l.x.now) (size-Expr l.y.now) + 5

abbrev pub decreases-nodes::disjunction : goal.decreases-nodes::disjunction
decreases-nodes::disjunction l = 8 * max (size-Expr l.x.now) (size-Expr l.y.now) + 5

abbrev pub decreases-nodes::choice : goal.decreases-nodes::choice
decreases-nodes::choice l = 8 * max (size-Expr l.c.now) (max (size-Expr l.x.now) (size-Expr l.y.now)) + 5

abbrev pub decreases-nodes::assignment : goal.decreases-nodes::assignment
decreases-nodes::assignment l = 8 * max (size-Scalar l.p.now) (size-Expr l.x.now) + 5

abbrev pub decreases-nodes::updating : goal.decreases-nodes::updating
decreases-nodes::updating l = 8 * max (size-Scalar l.p.now) (size-Expr l.x.now) + 5

abbrev pub decreases-nodes::user_update : goal.decreases-nodes::user_update
decreases-nodes::user_update l = 8 * max (size-Scalar l.p.now) (size-Expr l.x.now) + 5

abbrev pub decreases-nodes::array_copy : goal.decreases-nodes::array_copy
decreases-nodes::array_copy l = 8 * max (size-Array l.to.now) (size-Array l.from.now) + 5

abbrev pub decreases-nodes::user_operator : goal.decreases-nodes::user_operator
decreases-nodes::user_operator l = 8 * max (size-Expr l.x.now) (size-Expr l.y.now) + 5

abbrev pub decreases-nodes::sequence : goal.decreases-nodes::sequence
decreases-nodes::sequence l = 8 * max (size-Expr l.x.now) (size-Expr l.y.now) + 5

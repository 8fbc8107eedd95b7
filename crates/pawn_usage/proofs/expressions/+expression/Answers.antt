use Rattle.std.proofs.Common.{arith}
use Rattle.pawn_usage.proofs.AddLaws.{adds_tail, so_far_goes_on, so_far_ends}
use Rattle.pawn_usage.proofs.NodeLaws.{of_args, of_links, of_call, of_native, of_chain}
use Rattle.pawn_usage.proofs.expressions.+expression.Goals as goal

pub in_args-loop-i-preserved : goal.in_args-loop-i-preserved
in_args-loop-i-preserved t c =
    so_far_goes_on _ c.loop-i.invariant (omega arith) c.index-items-i.is c.in_ok-in_arg.ensures

pub in_links-loop-i-preserved : goal.in_links-loop-i-preserved
in_links-loop-i-preserved t c =
    so_far_goes_on _ c.loop-i.invariant (omega arith) c.index-items-i.is c.in_ok-in_link.ensures

pub in_args-returns : goal.in_args-returns
in_args-returns t c =
    rw (← c.as_slice-items.ensures, ← of_args c.as_slice-items.result.now)
    (so_far_ends c.loop-i.invariant (omega arith))

pub in_links-returns : goal.in_links-returns
in_links-returns t c =
    rw (← c.as_slice-items.ensures, ← of_links c.as_slice-items.result.now)
    (so_far_ends c.loop-i.invariant (omega arith))

pub in_expr-returns-in_ok-in_expr-in-Chain : goal.in_expr-returns-in_ok-in_expr-in-Chain
in_expr-returns-in_ok-in_expr-in-Chain t c =
    rw (c.in-Chain.is, of_chain c.in-Chain.x c.in-Chain.links, ← c.deref-in-Chain.ensures)
    (adds_tail _ _ _ _ _ _ c.in_ok-in_expr-in-Chain.ensures c.in_links.ensures)

pub in_expr-returns-in_ok-in_args-in-Call : goal.in_expr-returns-in_ok-in_args-in-Call
in_expr-returns-in_ok-in_args-in-Call t c =
    rw (c.in-Call.is, of_call c.in-Call.function c.in-Call.args)
    (adds_tail _ _ _ _ _ _ c.in_ok-in_args-in-Call.ensures c.add-in-Call.ensures)

pub in_expr-returns-in-Native : goal.in_expr-returns-in-Native
in_expr-returns-in-Native t c =
    rw (c.in-Native.is, of_native c.in-Native.field-0 c.in-Native.args) c.in_args-in-Native.ensures

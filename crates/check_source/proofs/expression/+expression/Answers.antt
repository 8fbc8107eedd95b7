use Rattle.std.proofs.Common.{arith}
use Rattle.check_source.proofs.AddLaws.{adds_tail, so_far_goes_on, so_far_ends, args_names}
use Rattle.check_source.proofs.AddLaws.{links_names, call_names, chain_names}
use Rattle.check_source.proofs.expression.+expression.Goals as goal

pub in_args-loop-i-preserved : goal.in_args-loop-i-preserved
in_args-loop-i-preserved t c =
    so_far_goes_on _ c.loop-i.invariant (omega arith) c.index-items-i.is c.in_ok-in_arg.ensures

pub in_links-loop-i-preserved : goal.in_links-loop-i-preserved
in_links-loop-i-preserved t c =
    so_far_goes_on _ c.loop-i.invariant (omega arith) c.index-items-i.is c.in_ok-in_link.ensures

pub in_args-returns : goal.in_args-returns
in_args-returns t c =
    rw (← c.as_slice-items.ensures, ← args_names c.as_slice-items.result.now)
    (so_far_ends c.loop-i.invariant (omega arith))

pub in_links-returns : goal.in_links-returns
in_links-returns t c =
    rw (← c.as_slice-items.ensures, ← links_names c.as_slice-items.result.now)
    (so_far_ends c.loop-i.invariant (omega arith))

pub in_expr-returns-in_ok-in_expr-in-Chain : goal.in_expr-returns-in_ok-in_expr-in-Chain
in_expr-returns-in_ok-in_expr-in-Chain t c =
    rw (
      c.in-Chain.is,
      chain_names c.in-Chain.field-0 c.in-Chain.x c.in-Chain.links,
      ← c.deref-in-Chain.ensures,
    )
    (adds_tail _ _ _ _ _ _ c.in_ok-in_expr-in-Chain.ensures c.in_links.ensures)

pub in_expr-returns-in_ok-add-in-Call : goal.in_expr-returns-in_ok-add-in-Call
in_expr-returns-in_ok-add-in-Call t c =
    rw (c.in-Call.is, call_names c.in-Call.field-0 c.in-Call.name c.in-Call.args c.in-Call.field-3)
    (adds_tail _ _ _ _ _ _ c.in_ok-add-in-Call.ensures c.in_args.ensures)

use Rattle.std.proofs.Common.{arith}
use Rattle.check_source.proofs.AddLaws.{adds_tail, so_far_goes_on, so_far_ends, stmts_names}
use Rattle.check_source.proofs.AddLaws.{cases_names, block_names, switch_names}
use Rattle.check_source.proofs.statement.+statement.Goals as goal

pub in_stmts-loop-i-preserved : goal.in_stmts-loop-i-preserved
in_stmts-loop-i-preserved t c =
    so_far_goes_on _ c.loop-i.invariant (omega arith) c.index-items-i.is c.in_ok-add_called.ensures

pub in_cases-loop-i-preserved : goal.in_cases-loop-i-preserved
in_cases-loop-i-preserved t c =
    so_far_goes_on _ c.loop-i.invariant (omega arith) c.index-items-i.is c.in_ok-in_case.ensures

pub in_stmts-returns : goal.in_stmts-returns
in_stmts-returns t c =
    rw (← c.as_slice-items.ensures, ← stmts_names c.as_slice-items.result.now)
    (so_far_ends c.loop-i.invariant (omega arith))

pub in_cases-returns : goal.in_cases-returns
in_cases-returns t c =
    rw (← c.as_slice-items.ensures, ← cases_names c.as_slice-items.result.now)
    (so_far_ends c.loop-i.invariant (omega arith))

pub add_called-returns-in-Block : goal.add_called-returns-in-Block
add_called-returns-in-Block t c =
    rw (c.in-Block.is, block_names c.in-Block.field-0 c.in-Block.list) c.in_stmts.ensures

pub add_called-returns-in_ok-in_cases-in-Switch : goal.add_called-returns-in_ok-in_cases-in-Switch
add_called-returns-in_ok-in_cases-in-Switch t c =
    rw (
      c.in-Switch.is,
      switch_names c.in-Switch.field-0 c.in-Switch.x c.in-Switch.list
          c.in-Switch.other,
    )
    (adds_tail _ _ _ _ _ _ c.in_ok-in_expr-in-Switch.ensures
    (adds_tail _ _ _ _ _ _ c.in_ok-in_cases-in-Switch.ensures c.in_other-in-Switch.ensures))

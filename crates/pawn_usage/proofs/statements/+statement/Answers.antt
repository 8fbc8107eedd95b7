use Rattle.std.proofs.Common.{arith}
use Rattle.pawn_meaning.specs.View.{program_view}
use Rattle.pawn_usage.proofs.AddLaws.{adds_tail, so_far_goes_on, so_far_ends}
use Rattle.pawn_usage.proofs.NodeLaws.{of_stmts, of_cases, of_block, of_for, of_switch}
use Rattle.pawn_usage.proofs.statements.+statement.Goals as goal

pub in_stmts-loop-i-preserved : goal.in_stmts-loop-i-preserved
in_stmts-loop-i-preserved t c =
    so_far_goes_on _ c.loop-i.invariant (omega arith) c.index-items-i.is c.in_ok-in_stmt.ensures

pub in_cases-loop-i-preserved : goal.in_cases-loop-i-preserved
in_cases-loop-i-preserved t c =
    so_far_goes_on _ c.loop-i.invariant (omega arith) c.index-items-i.is c.in_ok-in_case.ensures

pub in_stmts-returns : goal.in_stmts-returns
in_stmts-returns t c =
    rw (
      ← c.as_slice-items.ensures,
      ← of_stmts (program_view c.args.program.now) c.as_slice-items.result.now,
    )
    (so_far_ends c.loop-i.invariant (omega arith))

pub in_cases-returns : goal.in_cases-returns
in_cases-returns t c =
    rw (
      ← c.as_slice-items.ensures,
      ← of_cases (program_view c.args.program.now) c.as_slice-items.result.now,
    )
    (so_far_ends c.loop-i.invariant (omega arith))

pub in_stmt-returns-in-Block : goal.in_stmt-returns-in-Block
in_stmt-returns-in-Block t c =
    rw (c.in-Block.is, of_block (program_view c.args.program.now) c.in-Block.stmts)
    c.in_stmts.ensures

pub in_stmt-returns-in_ok-in_perhaps-in-For-2 : goal.in_stmt-returns-in_ok-in_perhaps-in-For-2
in_stmt-returns-in_ok-in_perhaps-in-For-2 t c =
    rw (
      c.in-For.is,
      of_for (program_view c.args.program.now) c.in-For.first c.in-For.x c.in-For.step c.in-For.body,
      ← c.deref-in-For.ensures,
    )
    (adds_tail _ _ _ _ _ _ c.in_ok-in_stmts-in-For.ensures
    (adds_tail _ _ _ _ _ _ c.in_ok-in_perhaps-in-For.ensures
    (adds_tail _ _ _ _ _ _ c.in_ok-in_perhaps-in-For-2.ensures c.in_stmt-in-For.ensures)))

pub in_stmt-returns-in_ok-in_cases-in-Switch : goal.in_stmt-returns-in_ok-in_cases-in-Switch
in_stmt-returns-in_ok-in_cases-in-Switch t c =
    rw (
      c.in-Switch.is,
      of_switch (program_view c.args.program.now) c.in-Switch.x c.in-Switch.cases c.in-Switch.other,
    )
    (adds_tail _ _ _ _ _ _ c.in_ok-in_expr-in-Switch.ensures
    (adds_tail _ _ _ _ _ _ c.in_ok-in_cases-in-Switch.ensures c.in_other-in-Switch.ensures))

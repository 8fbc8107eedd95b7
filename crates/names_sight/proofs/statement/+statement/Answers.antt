use Rattle.std.proofs.Common.{arith, map, sym, ◌∙◌}
use Rattle.pawn_tree.specs.View.{stmt_view, case_view}
use Rattle.names_rules.proofs.PassLaws.{pass_ends, stmts_pass, cases_pass}
use Rattle.names_sight.specs.MarkView.{marks_view}
use Rattle.names_sight.proofs.MarkLaws.{block_marks, switch_marks}
use Rattle.names_sight.proofs.statement.+statement.Goals as goal

pub stmt_marks-returns-in_ok-stmts_marks-in-Block
    : goal.stmt_marks-returns-in_ok-stmts_marks-in-Block
stmt_marks-returns-in_ok-stmts_marks-in-Block t c =
    rw (
      c.in-Block.is,
      block_marks c.in-Block.field-0 c.in-Block.list (marks_view c.args.out.now),
      ← c.in_ok-opens-in-Block.ensures,
      ← c.in_ok-stmts_marks-in-Block.ensures,
    ) c.closes.ensures

pub stmt_marks-returns-in_ok-cases_marks-in-Switch
    : goal.stmt_marks-returns-in_ok-cases_marks-in-Switch
stmt_marks-returns-in_ok-cases_marks-in-Switch t c =
    rw (
      c.in-Switch.is,
      switch_marks c.in-Switch.field-0 c.in-Switch.x c.in-Switch.list
          c.in-Switch.other (marks_view c.args.out.now),
      ← c.in_ok-expr_marks-in-Switch.ensures,
      ← c.in_ok-cases_marks-in-Switch.ensures,
    ) c.other_marks-in-Switch.ensures

pub stmts_marks-returns : goal.stmts_marks-returns
stmts_marks-returns t c =
    rw (← c.as_slice-items.ensures)
    (sym (stmts_pass (map stmt_view c.as_slice-items.result.now) (marks_view c.args.out.now)
    ∙ pass_ends c.loop-i.invariant (omega arith)))

pub cases_marks-returns : goal.cases_marks-returns
cases_marks-returns t c =
    rw (← c.as_slice-items.ensures)
    (sym (cases_pass (map case_view c.as_slice-items.result.now) (marks_view c.args.out.now)
    ∙ pass_ends c.loop-i.invariant (omega arith)))

use Rattle.std.proofs.Common.{arith, map, sym, ◌∙◌}
use Rattle.pawn_tree.specs.View.{arg_view, link_view}
use Rattle.names_rules.proofs.PassLaws.{pass_goes_on, pass_ends, args_pass, links_pass}
use Rattle.names_sight.specs.MarkView.{marks_view}
use Rattle.names_sight.proofs.MarkLaws.{call_marks, chain_marks}
use Rattle.names_sight.proofs.expression_marks.+expression.Goals as goal

pub expr_marks-returns-in_ok-expr_marks-in-Chain : goal.expr_marks-returns-in_ok-expr_marks-in-Chain
expr_marks-returns-in_ok-expr_marks-in-Chain t c =
    rw (
      c.in-Chain.is,
      chain_marks c.in-Chain.field-0 c.in-Chain.x c.in-Chain.links
          (marks_view c.args.out.now),
      ← c.deref-in-Chain.ensures,
      ← c.in_ok-expr_marks-in-Chain.ensures,
    ) c.links_marks.ensures

pub expr_marks-returns-in_ok-uses-in-Call : goal.expr_marks-returns-in_ok-uses-in-Call
expr_marks-returns-in_ok-uses-in-Call t c =
    rw (
      c.in-Call.is,
      call_marks c.in-Call.at c.in-Call.name c.in-Call.args c.in-Call.field-3
          (marks_view c.args.out.now),
      ← c.in_ok-uses-in-Call.ensures,
    ) c.args_marks.ensures

pub args_marks-loop-i-preserved : goal.args_marks-loop-i-preserved
args_marks-loop-i-preserved t c =
    rw c.in_ok-arg_marks.ensures (pass_goes_on _ c.loop-i.invariant
    (omega arith) c.index-items-i.is)

pub args_marks-returns : goal.args_marks-returns
args_marks-returns t c =
    rw (← c.as_slice-items.ensures)
    (sym (args_pass (map arg_view c.as_slice-items.result.now) (marks_view c.args.out.now)
    ∙ pass_ends c.loop-i.invariant (omega arith)))

pub links_marks-loop-i-preserved : goal.links_marks-loop-i-preserved
links_marks-loop-i-preserved t c =
    rw c.in_ok-link_marks.ensures (pass_goes_on _ c.loop-i.invariant
    (omega arith) c.index-items-i.is)

pub links_marks-returns : goal.links_marks-returns
links_marks-returns t c =
    rw (← c.as_slice-items.ensures)
    (sym (links_pass (map link_view c.as_slice-items.result.now) (marks_view c.args.out.now)
    ∙ pass_ends c.loop-i.invariant (omega arith)))

use Rattle.std.proofs.Common.{arith, map, sym, ◌∙◌}
use Rattle.pawn_tree.specs.View.{init_view}
use Rattle.names_rules.proofs.PassLaws.{pass_ends, inits_pass}
use Rattle.names_sight.specs.MarkView.{marks_view}
use Rattle.names_sight.proofs.MarkLaws.{braces_marks}
use Rattle.names_sight.proofs.variable.+init.Goals as goal

pub init_marks-returns-in-Braces : goal.init_marks-returns-in-Braces
init_marks-returns-in-Braces t c =
    rw (
      c.in-Braces.is,
      braces_marks c.in-Braces.field-0 c.in-Braces.list c.in-Braces.field-2
          (marks_view c.args.out.now),
    ) c.inits_marks.ensures

pub inits_marks-returns : goal.inits_marks-returns
inits_marks-returns t c =
    rw (← c.as_slice-items.ensures)
    (sym (inits_pass (map init_view c.as_slice-items.result.now) (marks_view c.args.out.now)
    ∙ pass_ends c.loop-i.invariant (omega arith)))

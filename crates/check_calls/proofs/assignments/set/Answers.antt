use Rattle.std.proofs.Common.{sym, ◌∙◌}
use Rattle.check_nodes.specs.ContextView.{around_view}
use Rattle.check_nodes.specs.TypedView.{typed_view}
use Rattle.check_calls.proofs.CopyLaws.{set_array, set_cell}
use Rattle.check_calls.proofs.assignments.set.Goals as goal

pub returns-then-is_array : goal.returns-then-is_array
returns-then-is_array c =
    set_array (around_view c.args.cx.now) c.args.at (typed_view c.args.x) (typed_view c.args.y)
    c.copy.result (sym c.is_array.ensures ∙ c.if-is_array.true) c.copy.ensures

pub returns-else-is_array : goal.returns-else-is_array
returns-else-is_array c =
    set_cell (around_view c.args.cx.now) c.args.at (typed_view c.args.x) (typed_view c.args.y)
    c.assign_cell.result (sym c.is_array.ensures ∙ c.if-is_array.false) c.assign_cell.ensures

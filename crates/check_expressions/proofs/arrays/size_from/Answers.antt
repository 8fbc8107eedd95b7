use Rattle.pawn_arrays.specs.Sizes.{inner_sizes}
use Rattle.pawn_tree.specs.View.{expr_view}
use Rattle.check_nodes.specs.ContextView.{around_view}
use Rattle.check_nodes.specs.TypedView.{typed_view}
use Rattle.check_nodes.specs.Scopes.{scope_view}
use Rattle.check_expressions.proofs.FirstSizeLaws.{size_from_list, size_from_text}
use Rattle.check_expressions.proofs.arrays.size_from.Goals as goal

pub returns-in-Braces : goal.returns-in-Braces
returns-in-Braces c =
    rw (
      c.in-Braces.is,
      size_from_list (around_view c.args.cx.now) (scope_view c.args.scopes.now) c.args.at
          c.in-Braces.field-0 (inner_sizes c.args.it.now.second c.args.it.now.third)
          c.in-Braces.list
          c.in-Braces.goes_on,
      ← c.len.ensures,
    ) c.list_size.ensures

pub returns-in_ok-x-in-Value : goal.returns-in_ok-x-in-Value
returns-in_ok-x-in-Value c =
    rw c.in-Value.is
    (size_from_text (around_view c.args.cx.now) (scope_view c.args.scopes.now) c.args.at
    (inner_sizes c.args.it.now.second c.args.it.now.third) (expr_view c.in-Value.e)
    (typed_view c.in_ok-x-in-Value.x) c.value_size.result c.in_ok-x-in-Value.ensures
    c.value_size.ensures)

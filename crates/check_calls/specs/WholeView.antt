-- An array that an index leads into, as the rules of typing see it.
use Rattle.std.specs.Prelude.{map, Option, None}
use Rattle.pawn_tree.specs.declared.name.At.{At}
use Rattle.pawn_meaning.specs.View.{array_view, object_view}
use Rattle.types_rules.specs.Typed as plain
use Rattle.check_nodes.specs.ExtentView.{extent_view}
use Rattle.check_calls.specs.declared.indexes.Whole.{Whole}

-- an array, for a node that begins at a token
abbrev pub whole_view : At → Whole → plain.Typed
whole_view at x = record {
  at = at;
  form = plain.Whole (array_view x.held.array) (extent_view x.held.extent) x.held.constant;
  tag = x.tag;
  value = None;
  literals = map object_view x.made.literals;
  warned = x.made.warned;
}

-- One cell that is written, as the rules of typing see it.
use Rattle.std.specs.Prelude.{map, false, Option, None}
use Rattle.pawn_tree.specs.declared.name.At.{At}
use Rattle.pawn_meaning.specs.View.{scalar_view, object_view}
use Rattle.types_rules.specs.Typed as plain
use Rattle.check_calls.specs.declared.updates.Target.{Target}

-- a place that may be written, for a node that begins at a token
abbrev pub target_view : At → Target → plain.Typed
target_view at x = record {
  at = at;
  form = plain.Place (scalar_view x.place) false;
  tag = x.tag;
  value = None;
  literals = map object_view x.made.literals;
  warned = x.made.warned;
}

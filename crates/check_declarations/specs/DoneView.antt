-- What declarations make, as the rules see it.
use Rattle.std.specs.Prelude.{map}
use Rattle.pawn_meaning.specs.View.{body_view, object_view, slot_view}
use Rattle.types_rules.specs.Declarations as plain
use Rattle.check_locals.specs.StoodView.{returned_view}
use Rattle.check_declarations.specs.declared.done_declarations.Bodied.{Bodied}
use Rattle.check_declarations.specs.declared.done_declarations.Done.{Done}

-- a body
abbrev pub bodied_view : Bodied → plain.Bodied
bodied_view it = record {
  number = it.number;
  at = it.at;
  params = map slot_view it.params;
  body = body_view it.body;
  returns = map returned_view it.returns;
}

-- all that was made
abbrev pub done_view : Done → plain.Done
done_view it = record {
  objects = map object_view it.objects;
  bodies = map bodied_view it.bodies.items;
  warned = it.warned;
}

-- An operand whose cell is taken, as the rules of typing see it.
use Rattle.std.specs.Prelude.{map}
use Rattle.pawn_meaning.specs.View.{object_view}
use Rattle.types_rules.specs.Typed as plain
use Rattle.check_nodes.specs.CodeView.{code_view}
use Rattle.check_nodes.specs.declared.operands.Operand.{Operand}

-- an operand is the value that its cell has
abbrev pub operand_view : Operand → plain.Typed
operand_view x = record {
  at = x.at;
  form = plain.Value (code_view x.code);
  tag = x.tag;
  value = x.value;
  literals = map object_view x.made.literals;
  warned = x.made.warned;
}

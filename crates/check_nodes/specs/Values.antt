-- A value and no more, with what was made and found in its parts.
use Rattle.std.specs.Prelude.{ℕ, ℤ, List, Option}
use Rattle.pawn_tree.specs.declared.name.At.{At}
use Rattle.pawn_meaning.specs.Program.{Expr, StaticObject}
use Rattle.types_rules.specs.Typed.{Typed, Value}

-- a value that stands by itself
abbrev pub value_of : At → Expr → ℕ → Option ℤ → List StaticObject → List At → Typed
value_of at e tag value literals warned = record {
  at = at;
  form = Value e;
  tag = tag;
  value = value;
  literals = literals;
  warned = warned;
}

-- The names of instructions: no two have one name, so a name says which instruction it is.
use Rattle.std.specs.Prelude.{◌≡◌}
use Rattle.amx_ops.specs.declared.op.Op.{Op}
use Rattle.amx_text.specs.Lines.{name_of}

-- no two instructions have one name
abbrev pub NamesDiffer : Type 0
NamesDiffer = (a b : Op) → name_of a ≡ name_of b → a ≡ b

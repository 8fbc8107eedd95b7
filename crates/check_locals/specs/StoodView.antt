-- Typed statements, as the rules of statements see them.
use Rattle.std.specs.Prelude.{List, Option, None, Some, map}
use Rattle.std.specs.declared.alloc.Global.{Global}
use Rattle.std.specs.declared.boxed.Box.{Box}
use Rattle.pawn_meaning.specs.Program as code
use Rattle.pawn_meaning.specs.Program.{Stmt, Perhaps, no_else, otherwise}
use Rattle.pawn_meaning.specs.View.{stmt_view, slot_view, object_view}
use Rattle.pawn_meaning.specs.declared.node.Expr.{Expr}
use Rattle.types_rules.specs.Stood as plain
use Rattle.types_rules.specs.Statements as rules
use Rattle.check_nodes.specs.CodeView.{code_view}
use Rattle.check_locals.specs.declared.stood.Returned.{Returned}
use Rattle.check_locals.specs.declared.stood.Parts.{Parts}
use Rattle.check_locals.specs.declared.stood.Stood.{Stood}
use Rattle.check_locals.specs.declared.rules.Jump.{Jump}
use Rattle.check_locals.specs.declared.rules.Jump.TheVariants as jump
use Rattle.check_locals.specs.declared.used.Used.{Used}
use Rattle.check_locals.specs.declared.used.Maybe.{Maybe}

-- where a body returns, and whether it gives a value there
abbrev pub returned_view : Returned → plain.Returned
returned_view it = record { at = it.at; gives = it.gives }

-- statements with what they make beside themselves
abbrev pub stood_of : List Stmt → Parts → plain.Stood
stood_of stmts parts = record {
  stmts = stmts;
  slots = map slot_view parts.slots;
  objects = map object_view parts.made.literals;
  returns = map returned_view parts.returns;
  warned = parts.made.warned;
}

-- statements as code holds them
abbrev pub stood_view : Stood → plain.Stood
stood_view it = stood_of (map stmt_view it.stmts.items) it.parts.value

-- `break` or `continue`
abbrev pub jump_view : Jump → Stmt
jump_view jump.Break = code.Break
jump_view jump.Continue = code.Continue

-- ---- values

-- a value that a statement uses
abbrev pub used_view : Used → rules.Used
used_view it = record {
  expr = code_view it.expr;
  tag = it.tag;
  at = it.at;
  objects = map object_view it.made.literals;
  warned = it.made.warned;
}

-- the code of a value that may be absent
abbrev pub perhaps_code : Option (Box Expr Global) → Perhaps
perhaps_code None = code.Absent
perhaps_code (Some it) = code.Present (code_view it)

-- a value that may be absent
abbrev pub maybe_view : Maybe → rules.Maybe
maybe_view it = record {
  expr = perhaps_code it.expr;
  objects = map object_view it.made.literals;
  warned = it.made.warned;
}

-- what stands behind `else` and `default`, or nothing
abbrev pub other_view : Option Stood → rules.Other
other_view None = record { stood = plain.nothing_stood; other = no_else }
other_view (Some it) =
    record { stood = stood_view it; other = otherwise (plain.one_of (stood_view it)) }

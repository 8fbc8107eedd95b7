-- The code of a value, as the rules of typing see it.
use Rattle.std.specs.declared.alloc.Global.{Global}
use Rattle.std.specs.declared.boxed.Box.{Box}
use Rattle.pawn_meaning.specs.Program.{Expr}
use Rattle.pawn_meaning.specs.View.{expr_view}
use Rattle.pawn_meaning.specs.declared.node.Expr as held

-- an expression without its box
abbrev pub code_view : Box held.Expr Global → Expr
code_view it = expr_view it.value

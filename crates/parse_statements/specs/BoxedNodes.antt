-- The view of trees in boxes.
use Rattle.std.specs.declared.boxed.Box.{Box}
use Rattle.std.specs.declared.alloc.Global.{Global}
use Rattle.pawn_tree.specs.Expressions.{Expr}
use Rattle.pawn_tree.specs.Statements.{Stmt}
use Rattle.pawn_tree.specs.declared.expression.Expr as held
use Rattle.pawn_tree.specs.declared.statement.Stmt as held_stmt
use Rattle.pawn_tree.specs.View.{expr_view, stmt_view}

-- an expression without its box
abbrev pub boxed_expr : Box held.Expr Global → Expr
boxed_expr x = expr_view x.value

-- a statement without its box
abbrev pub boxed_stmt : Box held_stmt.Stmt Global → Stmt
boxed_stmt x = stmt_view x.value

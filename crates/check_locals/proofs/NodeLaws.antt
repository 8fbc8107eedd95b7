-- Statements in a list, seen one by one or all at once.
use Rattle.std.proofs.Common.{◌≡◌, List, [], ◌∷◌, map, refl, ap}
use Rattle.pawn_meaning.specs.Program.{Stmts, then_stmt}
use Rattle.pawn_meaning.specs.View.{stmt_view, stmts_view}
use Rattle.pawn_meaning.specs.declared.node.Stmt as held
use Rattle.pawn_meaning.proofs.ViewLaws.{stmt_view-Block, stmt_view-If, stmt_view-For}
use Rattle.types_rules.specs.Stood.{stmts_in}

pub stmts_are : (ss : List held.Stmt) → stmts_in (map stmt_view ss) ≡ stmts_view ss
stmts_are [] = refl
stmts_are (s ∷ ss) = ap (λ (more : Stmts). then_stmt (stmt_view s) more) (stmts_are ss)

pub ruleset nodes = (stmts_are, stmt_view-Block, stmt_view-If, stmt_view-For)

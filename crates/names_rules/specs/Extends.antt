-- Marks that stand behind others. A node's marks are behind those before it, and the faults of
-- marks stay where others follow.
use Rattle.std.specs.Prelude.{◌≡◌, List, ◌++◌}
use Rattle.std.specs.List.{Contains}
use Rattle.pawn_tree.specs.Expressions.{Expr}
use Rattle.pawn_tree.specs.Statements.{Stmt}
use Rattle.pawn_tree.specs.Declarations.{Decl}
use Rattle.names_rules.specs.Verdict.{Fault}
use Rattle.names_rules.specs.Mark.{Mark}
use Rattle.names_rules.specs.ExpressionMarks.{expr_marks}
use Rattle.names_rules.specs.StatementMarks.{stmt_marks}
use Rattle.names_rules.specs.TreeMarks.{decl_marks}
use Rattle.names_rules.specs.Around.{Around}
use Rattle.names_rules.specs.Faults.{marks_faults}

-- the latest first, so that those that follow stand in front
pub record Extends (before now : List Mark) : Type 0 where
  pub more : List Mark
  pub same : now ≡ more ++ before

-- the marks of each node
pub record NodesExtend : Type 0 where
  pub expr : (x : Expr) (before : List Mark) → Extends before (expr_marks x before)
  pub stmt : (s : Stmt) (before : List Mark) → Extends before (stmt_marks s before)
  pub decl : (x : Decl) (before : List Mark) → Extends before (decl_marks x before)

-- so a fault of a part is one of the whole
abbrev pub FaultsStay : Type 0
FaultsStay = (around : Around) (before now : List Mark) (fault : Fault) → Extends before now
    → Contains (marks_faults around before) fault → Contains (marks_faults around now) fault

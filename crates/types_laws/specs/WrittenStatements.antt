-- Statements as a source has them.
use Rattle.std.specs.Prelude.{ℕ, List, Option, None, Some}
use Rattle.pawn_tree.specs.Expressions.{Expr}
use Rattle.pawn_tree.specs.Variables.{Var}
use Rattle.pawn_tree.specs.Statements.{Range, Stmt, Empty, Do, Block, If, While, DoWhile, For}
use Rattle.pawn_tree.specs.Statements.{Switch, Return, Exit, Sleep, Assert, Break, Continue, State}
use Rattle.pawn_tree.specs.Statements.{Local, Constant, First, Nothing, New, Value, Stmts, no_stmts}
use Rattle.pawn_tree.specs.Statements.{then_stmt, MaybeStmt, no_stmt, one_stmt, Case, Values, Cases}
use Rattle.pawn_tree.specs.Statements.{no_cases, then_case}
use Rattle.types_laws.specs.Objects.{Each}
use Rattle.types_laws.specs.Written.{IsAnyName, IsWritten, IsWrittenVar}

-- a constant of a case, in which no call stands
abbrev pub IsConstant : Expr → Type 0
IsConstant e = IsWritten IsAnyName e

-- one that may be left out
abbrev pub MayBeConstant : Option Expr → Type 0
MayBeConstant None = Unit {0}
MayBeConstant (Some e) = IsConstant e

-- the ends of a range
pub record IsWrittenRange (range : Range) : Type 0 where
  pub first : IsConstant range.first
  pub last : MayBeConstant range.last

-- the names that may be called
module _ (Calls : List ℕ → Type 0) where
  -- an expression that may be left out
  abbrev pub MayBeWritten : Option Expr → Type 0
  MayBeWritten None = Unit {0}
  MayBeWritten (Some e) = IsWritten Calls e

  -- variables
  abbrev pub AreWrittenVars : List Var → Type 0
  AreWrittenVars vars = Each (IsWrittenVar Calls) vars

  -- what a `for` does first
  abbrev pub IsWrittenFirst : First → Type 0
  IsWrittenFirst Nothing = Unit {0}
  IsWrittenFirst (New vars) = AreWrittenVars vars
  IsWrittenFirst (Value e) = IsWritten Calls e

  abbrev mutual
    -- a statement
    pub IsWrittenStmt : Stmt → Type 0
    IsWrittenStmt (Empty at) = Unit {0}
    IsWrittenStmt (Do at e) = IsWritten Calls e
    IsWrittenStmt (Block at ss) = AreWrittenStmts ss
    IsWrittenStmt (If at c s other) = IsWritten Calls c × IsWrittenStmt s × IsWrittenOther other
    IsWrittenStmt (While at c s) = IsWritten Calls c × IsWrittenStmt s
    IsWrittenStmt (DoWhile at s c) = IsWrittenStmt s × IsWritten Calls c
    IsWrittenStmt (For at first c step s) =
        IsWrittenFirst first × MayBeWritten c × MayBeWritten step × IsWrittenStmt s
    IsWrittenStmt (Switch at e cases other) =
        IsWritten Calls e × AreWrittenCases cases × IsWrittenOther other
    IsWrittenStmt (Return at e) = MayBeWritten e
    IsWrittenStmt (Exit at e) = MayBeWritten e
    IsWrittenStmt (Sleep at e) = MayBeWritten e
    IsWrittenStmt (Assert at e) = IsWritten Calls e
    IsWrittenStmt (Break at) = Unit {0}
    IsWrittenStmt (Continue at) = Unit {0}
    IsWrittenStmt (State at e name) = MayBeWritten e
    IsWrittenStmt (Local at it) = AreWrittenVars it.vars
    IsWrittenStmt (Constant at it) = IsConstant it.value

    -- statements
    pub AreWrittenStmts : Stmts → Type 0
    AreWrittenStmts no_stmts = Unit {0}
    AreWrittenStmts (then_stmt s ss) = IsWrittenStmt s × AreWrittenStmts ss

    -- what stands behind `else` and `default`
    pub IsWrittenOther : MaybeStmt → Type 0
    IsWrittenOther no_stmt = Unit {0}
    IsWrittenOther (one_stmt s) = IsWrittenStmt s

    -- cases
    pub AreWrittenCases : Cases → Type 0
    AreWrittenCases no_cases = Unit {0}
    AreWrittenCases (then_case x xs) = IsWrittenCase x × AreWrittenCases xs

    -- a case
    pub IsWrittenCase : Case → Type 0
    IsWrittenCase (Values at ranges s) = Each IsWrittenRange ranges × IsWrittenStmt s

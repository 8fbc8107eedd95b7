-- Statements as plain data (Language Guide, "Statements"). Each node begins with its first token.
use Rattle.std.specs.Prelude.{List, [], ◌∷◌, Option, Some, None}
use Rattle.pawn_tree.specs.declared.name.At.{At}
use Rattle.pawn_tree.specs.declared.name.Name as n
use Rattle.pawn_tree.specs.declared.name.StateName.{StateName}
use Rattle.pawn_tree.specs.Expressions.{Expr}
use Rattle.pawn_tree.specs.Variables.{Var, Variables}

-- a constant with its tag, where it has one
pub record ConstantOf : Type 0 where
  pub tag : Option n.Name
  pub name : n.Name
  pub value : Expr

-- what a `for` begins with
pub data First : Type 0 where
  Nothing : First
  New : List Var → First
  Value : Expr → First

-- a value, or all from a first to a last one
pub record Range : Type 0 where
  pub first : Expr
  pub last : Option Expr

mutual
  -- simple statements, blocks, branches and loops, and what a block declares
  pub data Stmt : Type 0 where
    Empty : At → Stmt
    Do : At → Expr → Stmt
    Block : At → Stmts → Stmt
    If : At → Expr → Stmt → MaybeStmt → Stmt
    While : At → Expr → Stmt → Stmt
    DoWhile : At → Stmt → Expr → Stmt
    For : At → First → Option Expr → Option Expr → Stmt → Stmt
    Switch : At → Expr → Cases → MaybeStmt → Stmt
    Return : At → Option Expr → Stmt
    Exit : At → Option Expr → Stmt
    Sleep : At → Option Expr → Stmt
    Assert : At → Expr → Stmt
    Break : At → Stmt
    Continue : At → Stmt
    State : At → Option Expr → StateName → Stmt
    Local : At → Variables → Stmt
    Constant : At → ConstantOf → Stmt

  -- the statements of a block, the first one first
  pub data Stmts : Type 0 where
    no_stmts : Stmts
    then_stmt : Stmt → Stmts → Stmts

  -- what stands behind `else` or `default`, if there is such
  pub data MaybeStmt : Type 0 where
    no_stmt : MaybeStmt
    one_stmt : Stmt → MaybeStmt

  -- a case of a `switch`: the values that it stands for, and what is done for them
  pub data Case : Type 0 where
    Values : At → List Range → Stmt → Case

  -- the cases of a `switch`, the first one first
  pub data Cases : Type 0 where
    no_cases : Cases
    then_case : Case → Cases → Cases

-- the statements that a list holds
abbrev pub stmts : List Stmt → Stmts
stmts [] = no_stmts
stmts (s ∷ ss) = then_stmt s (stmts ss)

-- the statement that may be left out
abbrev pub maybe_stmt : Option Stmt → MaybeStmt
maybe_stmt None = no_stmt
maybe_stmt (Some s) = one_stmt s

-- the cases that a list holds
abbrev pub cases : List Case → Cases
cases [] = no_cases
cases (x ∷ xs) = then_case x (cases xs)

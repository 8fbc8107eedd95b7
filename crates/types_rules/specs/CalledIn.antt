-- The names that are called in a statement, in token order. No call stands in a constant.
use Rattle.std.specs.Prelude.{ℕ, List, [], ◌++◌, flat_map, Option, None, Some}
use Rattle.pawn_tree.specs.Expressions.{Expr}
use Rattle.pawn_tree.specs.Variables.{Init, Var}
use Rattle.pawn_tree.specs.Variables as variables
use Rattle.pawn_tree.specs.Statements.{Stmt, Empty, Do, Block, If, While, DoWhile, For, Switch}
use Rattle.pawn_tree.specs.Statements.{Return, Exit, Sleep, Assert, Break, Continue, State, Local}
use Rattle.pawn_tree.specs.Statements.{Constant, First, Nothing, New, Value, Stmts, no_stmts}
use Rattle.pawn_tree.specs.Statements.{then_stmt, MaybeStmt, no_stmt, one_stmt, Case, Values, Cases}
use Rattle.pawn_tree.specs.Statements.{no_cases, then_case}
use Rattle.types_rules.specs.Called.{called}

-- the names called in an expression that may be absent
abbrev pub called_by : Option Expr → List (List ℕ)
called_by None = []
called_by (Some e) = called e

-- those in a variable's first value; braces hold constants only
abbrev pub called_by_init : Option Init → List (List ℕ)
called_by_init None = []
called_by_init (Some (variables.Value e)) = called e
called_by_init (Some (variables.Braces at xs goes_on)) = []

-- those in the first values of variables
abbrev pub called_by_vars : List Var → List (List ℕ)
called_by_vars vars = flat_map (λ (x : Var). called_by_init x.init) vars

-- those in what a `for` does first
abbrev pub called_first : First → List (List ℕ)
called_first Nothing = []
called_first (New vars) = called_by_vars vars
called_first (Value e) = called e

abbrev mutual
  -- those in all expressions of a statement
  pub called_in : Stmt → List (List ℕ)
  called_in (Empty at) = []
  called_in (Do at e) = called e
  called_in (Block at ss) = called_in_all ss
  called_in (If at c s other) = called c ++ (called_in s ++ called_in_other other)
  called_in (While at c s) = called c ++ called_in s
  called_in (DoWhile at s c) = called_in s ++ called c
  called_in (For at first c step s) =
      called_first first ++ (called_by c ++ (called_by step ++ called_in s))
  called_in (Switch at e cases other) = called e ++ (called_in_cases cases ++ called_in_other other)
  called_in (Return at e) = called_by e
  called_in (Exit at e) = called_by e
  called_in (Sleep at e) = called_by e
  called_in (Assert at e) = called e
  called_in (Break at) = []
  called_in (Continue at) = []
  called_in (State at e name) = called_by e
  called_in (Local at it) = called_by_vars it.vars
  called_in (Constant at it) = []

  -- in a list of statements
  pub called_in_all : Stmts → List (List ℕ)
  called_in_all no_stmts = []
  called_in_all (then_stmt s ss) = called_in s ++ called_in_all ss

  -- those behind `else` or `default`
  pub called_in_other : MaybeStmt → List (List ℕ)
  called_in_other no_stmt = []
  called_in_other (one_stmt s) = called_in s

  -- in the cases of a `switch`
  pub called_in_cases : Cases → List (List ℕ)
  called_in_cases no_cases = []
  called_in_cases (then_case x xs) = called_in_case x ++ called_in_cases xs

  -- the labels of a case are constants: only its statement calls
  pub called_in_case : Case → List (List ℕ)
  called_in_case (Values at ranges s) = called_in s

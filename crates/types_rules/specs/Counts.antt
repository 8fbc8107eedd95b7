-- How many slots and objects a statement makes: a slot for each variable with `new`, an object for
-- each array, each `static` and each literal. A text that gives the cells of an array is no
-- literal.
use Rattle.std.specs.Prelude.{ℕ, ◌+◌, List, [], ◌∷◌, sum_by, Option, None, Some}
use Rattle.pawn_tree.specs.declared.variable.Storage.{Storage}
use Rattle.pawn_tree.specs.declared.variable.Storage.TheVariants as storage
use Rattle.pawn_tree.specs.Expressions.{Expr}
use Rattle.pawn_tree.specs.Variables.{Dim, Init, Var, Variables}
use Rattle.pawn_tree.specs.Variables as variables
use Rattle.pawn_tree.specs.Statements.{Stmt, Empty, Do, Block, If, While, DoWhile, For, Switch}
use Rattle.pawn_tree.specs.Statements.{Return, Exit, Sleep, Assert, Break, Continue, State, Local}
use Rattle.pawn_tree.specs.Statements.{Constant, First, Nothing, New, Value, Stmts, no_stmts}
use Rattle.pawn_tree.specs.Statements.{then_stmt, MaybeStmt, no_stmt, one_stmt, Case, Values, Cases}
use Rattle.pawn_tree.specs.Statements.{no_cases, then_case}
use Rattle.types_rules.specs.Literals.{literals}

-- ---- variables

-- a variable on the stack has a slot, a `static` one has none
abbrev pub slots_of_storage : Storage → ℕ
slots_of_storage storage.New = 1
slots_of_storage storage.Static = 0
slots_of_storage storage.Stock = 1

-- the literals in a first value
abbrev pub literals_of_init : Option Init → ℕ
literals_of_init None = 0
literals_of_init (Some (variables.Value e)) = literals e
literals_of_init (Some (variables.Braces at xs goes_on)) = 0

-- an array is an object, and so is a `static`
abbrev pub objects_by : Storage → List Dim → Option Init → ℕ
objects_by kind (dim ∷ dims) init = 1
objects_by storage.Static [] init = 1
objects_by storage.New [] init = literals_of_init init
objects_by storage.Stock [] init = literals_of_init init

-- the objects that a declared variable makes
abbrev pub objects_of_var : Storage → Var → ℕ
objects_of_var kind x = objects_by kind x.dims x.init

-- one for each variable, or none
abbrev pub slots_of_vars : Storage → List Var → ℕ
slots_of_vars kind vars = sum_by (λ (x : Var). slots_of_storage kind) vars

-- those of each variable of a declaration
abbrev pub objects_of_vars : Storage → List Var → ℕ
objects_of_vars kind vars = sum_by (λ x. objects_of_var kind x) vars

-- ---- parts that may be left out

-- the literals in an expression that may be absent
abbrev pub literals_of : Option Expr → ℕ
literals_of None = 0
literals_of (Some e) = literals e

-- what a `for` declares first has slots of its own
abbrev pub slots_first : First → ℕ
slots_first Nothing = 0
slots_first (New vars) = slots_of_vars storage.New vars
slots_first (Value e) = 0

-- those of variables, or the literals in an expression
abbrev pub objects_first : First → ℕ
objects_first Nothing = 0
objects_first (New vars) = objects_of_vars storage.New vars
objects_first (Value e) = literals e

-- ---- slots

abbrev mutual
  -- each variable of an enclosed block has a slot of its own
  pub slots_in : Stmt → ℕ
  slots_in (Empty at) = 0
  slots_in (Do at e) = 0
  slots_in (Block at ss) = slots_in_all ss
  slots_in (If at c s other) = slots_in s + slots_in_other other
  slots_in (While at c s) = slots_in s
  slots_in (DoWhile at s c) = slots_in s
  slots_in (For at first c step s) = slots_first first + slots_in s
  slots_in (Switch at e cases other) = slots_in_cases cases + slots_in_other other
  slots_in (Return at e) = 0
  slots_in (Exit at e) = 0
  slots_in (Sleep at e) = 0
  slots_in (Assert at e) = 0
  slots_in (Break at) = 0
  slots_in (Continue at) = 0
  slots_in (State at e name) = 0
  slots_in (Local at it) = slots_of_vars it.storage it.vars
  slots_in (Constant at it) = 0

  -- of a list of statements
  pub slots_in_all : Stmts → ℕ
  slots_in_all no_stmts = 0
  slots_in_all (then_stmt s ss) = slots_in s + slots_in_all ss

  -- those behind `else` or `default`
  pub slots_in_other : MaybeStmt → ℕ
  slots_in_other no_stmt = 0
  slots_in_other (one_stmt s) = slots_in s

  -- of the cases of a `switch`
  pub slots_in_cases : Cases → ℕ
  slots_in_cases no_cases = 0
  slots_in_cases (then_case x xs) = slots_in_case x + slots_in_cases xs

  -- the labels of a case make none
  pub slots_in_case : Case → ℕ
  slots_in_case (Values at ranges s) = slots_in s

-- ---- objects

abbrev mutual
  -- the arrays, `static` variables and literals of a statement
  pub objects_in : Stmt → ℕ
  objects_in (Empty at) = 0
  objects_in (Do at e) = literals e
  objects_in (Block at ss) = objects_in_all ss
  objects_in (If at c s other) = literals c + (objects_in s + objects_in_other other)
  objects_in (While at c s) = literals c + objects_in s
  objects_in (DoWhile at s c) = objects_in s + literals c
  objects_in (For at first c step s) =
      objects_first first + (literals_of c + (literals_of step + objects_in s))
  objects_in (Switch at e cases other) =
      literals e + (objects_in_cases cases + objects_in_other other)
  objects_in (Return at e) = literals_of e
  objects_in (Exit at e) = literals_of e
  objects_in (Sleep at e) = literals_of e
  objects_in (Assert at e) = literals e
  objects_in (Break at) = 0
  objects_in (Continue at) = 0
  objects_in (State at e name) = literals_of e
  objects_in (Local at it) = objects_of_vars it.storage it.vars
  objects_in (Constant at it) = 0

  -- of a list of statements
  pub objects_in_all : Stmts → ℕ
  objects_in_all no_stmts = 0
  objects_in_all (then_stmt s ss) = objects_in s + objects_in_all ss

  -- those behind `else` or `default`
  pub objects_in_other : MaybeStmt → ℕ
  objects_in_other no_stmt = 0
  objects_in_other (one_stmt s) = objects_in s

  -- of the cases of a `switch`, whose values have no literals
  pub objects_in_cases : Cases → ℕ
  objects_in_cases no_cases = 0
  objects_in_cases (then_case x xs) = objects_in_case x + objects_in_cases xs

  -- the labels of a case make none
  pub objects_in_case : Case → ℕ
  objects_in_case (Values at ranges s) = objects_in s

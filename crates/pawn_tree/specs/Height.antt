-- How many levels of nodes stand one above another. A leaf has one; what is no node has those of
-- its parts.
use Rattle.std.specs.Prelude.{ℕ, suc, max, List, [], ◌∷◌, Option, Some, None}
use Rattle.pawn_tree.specs.Expressions.{Expr, Arg, Args, no_args, then_arg, Links, no_links}
use Rattle.pawn_tree.specs.Expressions.{then_link, Link}
use Rattle.pawn_tree.specs.Expressions as plain
use Rattle.pawn_tree.specs.Variables.{Dim, Init, Inits, no_inits, then_init, Var}
use Rattle.pawn_tree.specs.Variables as var
use Rattle.pawn_tree.specs.Statements.{First, Range, Stmt, Stmts, no_stmts, then_stmt, MaybeStmt}
use Rattle.pawn_tree.specs.Statements.{no_stmt, one_stmt, Cases, no_cases, then_case, Case}
use Rattle.pawn_tree.specs.Statements as stmt
use Rattle.pawn_tree.specs.Declarations.{Item, Param, Head, FunctionOf, Decl, Tree}
use Rattle.pawn_tree.specs.Declarations as decl

-- the highest of a list
abbrev pub highest : {A : Type 0} → (A → ℕ) → List A → ℕ
highest height [] = 0
highest height (x ∷ xs) = max (height x) (highest height xs)

-- that of what may be left out
abbrev pub height_of : {A : Type 0} → (A → ℕ) → Option A → ℕ
height_of height None = 0
height_of height (Some x) = height x

abbrev mutual
  -- a leaf has one level, an operator one more than its operands
  pub expr_height : Expr → ℕ
  expr_height (plain.Number at v) = 1
  expr_height (plain.Text at bytes packed) = 1
  expr_height (plain.Name at name) = 1
  expr_height (plain.Paren at x) = suc (expr_height x)
  expr_height (plain.Sizeof at x) = 1
  expr_height (plain.Tagof at x) = 1
  expr_height (plain.Prefix at sign x) = suc (expr_height x)
  expr_height (plain.Tagged at tag x) = suc (expr_height x)
  expr_height (plain.Postfix at sign x) = suc (expr_height x)
  expr_height (plain.Index at x y) = suc (max (expr_height x) (expr_height y))
  expr_height (plain.Character at x y) = suc (max (expr_height x) (expr_height y))
  expr_height (plain.Binary at sign x y) = suc (max (expr_height x) (expr_height y))
  expr_height (plain.Chain at x links) = suc (max (expr_height x) (links_height links))
  expr_height (plain.Choice at x y z) =
      suc (max (expr_height x) (max (expr_height y) (expr_height z)))
  expr_height (plain.Assign at sign x y) = suc (max (expr_height x) (expr_height y))
  expr_height (plain.Call at name args bare) = suc (args_height args)

  -- an argument is no node
  pub arg_height : Arg → ℕ
  arg_height (plain.Value x) = expr_height x
  arg_height (plain.Default at) = 0
  arg_height (plain.Named name x) = expr_height x

  -- the greatest of them
  pub args_height : Args → ℕ
  args_height no_args = 0
  args_height (then_arg x xs) = max (arg_height x) (args_height xs)

  -- the greatest of them
  pub links_height : Links → ℕ
  links_height no_links = 0
  links_height (then_link x xs) = max (link_height x) (links_height xs)

  -- of one comparison's right operand
  pub link_height : Link → ℕ
  link_height (plain.Compare sign x) = expr_height x

-- of a dimension's expression
abbrev pub dim_height : Dim → ℕ
dim_height var.Open = 0
dim_height (var.Cells x) = expr_height x
dim_height (var.Chars x) = expr_height x

-- values in braces are a node
abbrev mutual
  -- of a first value: braces are a node
  pub init_height : Init → ℕ
  init_height (var.Value x) = expr_height x
  init_height (var.Braces at xs rest) = suc (inits_height xs)

  -- of the values in braces
  pub inits_height : Inits → ℕ
  inits_height no_inits = 0
  inits_height (then_init x xs) = max (init_height x) (inits_height xs)

-- those of its dimensions and first value
abbrev pub var_height : Var → ℕ
var_height x = max (highest dim_height x.dims) (height_of init_height x.init)

-- those of variables, or of an expression
abbrev pub first_height : First → ℕ
first_height stmt.Nothing = 0
first_height (stmt.New vars) = highest var_height vars
first_height (stmt.Value x) = expr_height x

-- of a value or range of a case
abbrev pub range_height : Range → ℕ
range_height x = max (expr_height x.first) (height_of expr_height x.last)

abbrev mutual
  -- one level more than its parts
  pub stmt_height : Stmt → ℕ
  stmt_height (stmt.Empty at) = 1
  stmt_height (stmt.Do at x) = suc (expr_height x)
  stmt_height (stmt.Block at ss) = suc (stmts_height ss)
  stmt_height (stmt.If at x s other) =
      suc (max (expr_height x) (max (stmt_height s) (other_height other)))
  stmt_height (stmt.While at x s) = suc (max (expr_height x) (stmt_height s))
  stmt_height (stmt.DoWhile at s x) = suc (max (stmt_height s) (expr_height x))
  stmt_height (stmt.For at first test step s) =
      suc (max (first_height first) (max (height_of expr_height test)
      (max (height_of expr_height step) (stmt_height s))))
  stmt_height (stmt.Switch at x cases other) =
      suc (max (expr_height x) (max (cases_height cases) (other_height other)))
  stmt_height (stmt.Return at x) = suc (height_of expr_height x)
  stmt_height (stmt.Exit at x) = suc (height_of expr_height x)
  stmt_height (stmt.Sleep at x) = suc (height_of expr_height x)
  stmt_height (stmt.Assert at x) = suc (expr_height x)
  stmt_height (stmt.Break at) = 1
  stmt_height (stmt.Continue at) = 1
  stmt_height (stmt.State at x name) = suc (height_of expr_height x)
  stmt_height (stmt.Local at variables) = suc (highest var_height variables.vars)
  stmt_height (stmt.Constant at constant) = suc (expr_height constant.value)

  -- the greatest of them
  pub stmts_height : Stmts → ℕ
  stmts_height no_stmts = 0
  stmts_height (then_stmt s ss) = max (stmt_height s) (stmts_height ss)

  -- the greatest of them
  pub cases_height : Cases → ℕ
  cases_height no_cases = 0
  cases_height (then_case x xs) = max (case_height x) (cases_height xs)

  -- those of its values and its statement
  pub case_height : Case → ℕ
  case_height (stmt.Values at ranges s) = max (highest range_height ranges) (stmt_height s)

  -- of what stands behind `else` or `default`
  pub other_height : MaybeStmt → ℕ
  other_height no_stmt = 0
  other_height (one_stmt s) = stmt_height s

-- of a constant of an enumeration
abbrev pub item_height : Item → ℕ
item_height x = height_of expr_height x.value

-- those of its dimensions and default; `...` has none
abbrev pub param_height : Param → ℕ
param_height (decl.Plain constant reference tags name dims value) =
    max (highest dim_height dims) (height_of expr_height value)
param_height (decl.Rest at tags) = 0

-- of a function's head
abbrev pub head_height : Head → ℕ
head_height x = highest param_height x.params

-- one level more than its parts
abbrev pub decl_height : Decl → ℕ
decl_height (decl.Variables at x) = suc (highest var_height x.vars)
decl_height (decl.Constant at x) = suc (expr_height x.value)
decl_height (decl.Enum at name items) = suc (highest item_height items)
decl_height (decl.Native at head) = suc (head_height head)
decl_height (decl.Forward at is_public head) = suc (head_height head)
decl_height (decl.Function at x) = suc (max (head_height x.head) (stmt_height x.body))

-- the height of the highest node; 0 where there is none
abbrev pub depth : Tree → ℕ
depth tree = highest decl_height tree

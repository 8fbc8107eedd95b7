-- The plain view of the tree that code holds.
use Rattle.std.specs.Prelude.{map, option_map}
use Rattle.pawn_tree.specs.Expressions.{Expr, Args, Arg, Links, Link, no_args, then_arg, no_links}
use Rattle.pawn_tree.specs.Expressions.{then_link}
use Rattle.pawn_tree.specs.Expressions as plain
use Rattle.pawn_tree.specs.Variables.{Dim, Init, Inits, no_inits, then_init, Var, Variables}
use Rattle.pawn_tree.specs.Variables as var
use Rattle.pawn_tree.specs.Statements.{ConstantOf, First, Range, Stmt, Stmts, MaybeStmt, Cases}
use Rattle.pawn_tree.specs.Statements.{Case, no_stmts, then_stmt, no_stmt, one_stmt, no_cases}
use Rattle.pawn_tree.specs.Statements.{then_case}
use Rattle.pawn_tree.specs.Statements as stmt
use Rattle.pawn_tree.specs.Declarations.{Item, Param, Head, FunctionOf, Decl, Tree}
use Rattle.pawn_tree.specs.Declarations as decl
use Rattle.pawn_tree.specs.declared.expression.Expr as held
use Rattle.pawn_tree.specs.declared.expression.Arg as held_arg
use Rattle.pawn_tree.specs.declared.expression.Link as held_link
use Rattle.pawn_tree.specs.declared.variable.Dim as held_dim
use Rattle.pawn_tree.specs.declared.variable.Dim.TheVariants as dim
use Rattle.pawn_tree.specs.declared.variable.Init as held_init
use Rattle.pawn_tree.specs.declared.variable.Var as held_var
use Rattle.pawn_tree.specs.declared.variable.Variables as held_variables
use Rattle.pawn_tree.specs.declared.statement.Stmt as held_stmt
use Rattle.pawn_tree.specs.declared.statement.Case as held_case
use Rattle.pawn_tree.specs.declared.statement.First as held_first
use Rattle.pawn_tree.specs.declared.statement.First.TheVariants as first
use Rattle.pawn_tree.specs.declared.statement.Range as held_range
use Rattle.pawn_tree.specs.declared.declaration.Constant as held_constant
use Rattle.pawn_tree.specs.declared.declaration.Item as held_item
use Rattle.pawn_tree.specs.declared.declaration.Param as held_param
use Rattle.pawn_tree.specs.declared.declaration.Param.TheVariants as param
use Rattle.pawn_tree.specs.declared.declaration.Head as held_head
use Rattle.pawn_tree.specs.declared.declaration.Function as held_function
use Rattle.pawn_tree.specs.declared.declaration.Decl as held_decl
use Rattle.pawn_tree.specs.declared.declaration.Decl.TheVariants as held_decls
use Rattle.pawn_tree.specs.declared.declaration.Tree as held_tree

abbrev mutual
  -- operands in boxes become parts, and rows become lists
  pub expr_view : held.Expr → Expr
  expr_view (held.Number at v) = plain.Number at v
  expr_view (held.Text at bytes packed) = plain.Text at bytes packed
  expr_view (held.Name at name) = plain.Name at name
  expr_view (held.Paren' at p x) = plain.Paren at (expr_view x)
  expr_view (held.Sizeof at x) = plain.Sizeof at x
  expr_view (held.Tagof at x) = plain.Tagof at x
  expr_view (held.Prefix' at sign p x) = plain.Prefix at sign (expr_view x)
  expr_view (held.Tagged' at tag p x) = plain.Tagged at tag (expr_view x)
  expr_view (held.Postfix' at sign p x) = plain.Postfix at sign (expr_view x)
  expr_view (held.Index' at p x q y) = plain.Index at (expr_view x) (expr_view y)
  expr_view (held.Character' at p x q y) = plain.Character at (expr_view x) (expr_view y)
  expr_view (held.Binary' at sign p x q y) = plain.Binary at sign (expr_view x) (expr_view y)
  expr_view (held.Chain' at p x n row) = plain.Chain at (expr_view x) (links_row_view row)
  expr_view (held.Choice' at p x q y r z) =
      plain.Choice at (expr_view x) (expr_view y) (expr_view z)
  expr_view (held.Assign' at sign p x q y) = plain.Assign at sign (expr_view x) (expr_view y)
  expr_view (held.Call' at name n row bare) = plain.Call at name (args_row_view row) bare

  -- by position, `_`, or by name
  pub arg_view : held_arg.Arg → Arg
  arg_view (held_arg.Value x) = plain.Value (expr_view x)
  arg_view (held_arg.Default at) = plain.Default at
  arg_view (held_arg.Named name x) = plain.Named name (expr_view x)

  -- the arguments of a call, the first one first
  pub args_row_view : {n : _} → held.Row_of-Arg n → Args
  args_row_view held.end_of-Arg = no_args
  args_row_view (held.more_of-Arg x row) = then_arg (arg_view x) (args_row_view row)

  -- the comparisons of a chain
  pub links_row_view : {n : _} → held.Row_of-Link n → Links
  links_row_view held.end_of-Link = no_links
  links_row_view (held.more_of-Link x row) = then_link (link_view x) (links_row_view row)

  -- one comparison of a chain
  pub link_view : held_link.Link → Link
  link_view (held_link.Compare sign x) = plain.Compare sign (expr_view x)

-- empty brackets, cells or packed characters
abbrev pub dim_view : held_dim.Dim → Dim
dim_view dim.Open = var.Open
dim_view (dim.Cells x) = var.Cells (expr_view x)
dim_view (dim.Chars x) = var.Chars (expr_view x)

abbrev mutual
  -- a first value
  pub init_view : held_init.Init → Init
  init_view (held_init.Value x) = var.Value (expr_view x)
  init_view (held_init.Braces' at n row rest) = var.Braces at (inits_row_view row) rest

  -- the values in braces
  pub inits_row_view : {n : _} → held_init.Row_of-Init n → Inits
  inits_row_view held_init.end_of-Init = no_inits
  inits_row_view (held_init.more_of-Init x row) = then_init (init_view x) (inits_row_view row)

-- its tag, name, dimensions and first value
abbrev pub var_view : held_var.Var → Var
var_view x =
    record {
      tag = x.tag;
      name = x.name;
      dims = map dim_view x.dims;
      init = option_map init_view x.init;
    }

-- the keyword, `const`, and all that is declared
abbrev pub variables_view : held_variables.Variables → Variables
variables_view x = record { storage = x.storage; constant = x.constant; vars = map var_view x.vars }

-- a `const` with its tag, name and value
abbrev pub constant_view : held_constant.Constant → ConstantOf
constant_view x = record { tag = x.tag; name = x.name; value = expr_view x.value }

-- nothing, variables, or an expression
abbrev pub first_view : held_first.First → First
first_view first.Nothing = stmt.Nothing
first_view (first.New vars) = stmt.New (map var_view vars)
first_view (first.Value x) = stmt.Value (expr_view x)

-- a value or range of a case
abbrev pub range_view : held_range.Range → Range
range_view x = record { first = expr_view x.first; last = option_map expr_view x.last }

abbrev mutual
  -- statements in boxes become parts, and rows become lists
  pub stmt_view : held_stmt.Stmt → Stmt
  stmt_view (held_stmt.Empty at) = stmt.Empty at
  stmt_view (held_stmt.Do at x) = stmt.Do at (expr_view x)
  stmt_view (held_stmt.Block' at n row) = stmt.Block at (stmts_row_view row)
  stmt_view (held_stmt.If' at x p s other) =
      stmt.If at (expr_view x) (stmt_view s) (other_view other)
  stmt_view (held_stmt.While' at x p s) = stmt.While at (expr_view x) (stmt_view s)
  stmt_view (held_stmt.DoWhile' at p s x) = stmt.DoWhile at (stmt_view s) (expr_view x)
  stmt_view (held_stmt.For' at first test step p s) =
      stmt.For at (first_view first) (option_map expr_view test) (option_map expr_view step)
      (stmt_view s)
  stmt_view (held_stmt.Switch' at x n row other) =
      stmt.Switch at (expr_view x) (cases_row_view row) (other_view other)
  stmt_view (held_stmt.Return at x) = stmt.Return at (option_map expr_view x)
  stmt_view (held_stmt.Exit at x) = stmt.Exit at (option_map expr_view x)
  stmt_view (held_stmt.Sleep at x) = stmt.Sleep at (option_map expr_view x)
  stmt_view (held_stmt.Assert at x) = stmt.Assert at (expr_view x)
  stmt_view (held_stmt.Break at) = stmt.Break at
  stmt_view (held_stmt.Continue at) = stmt.Continue at
  stmt_view (held_stmt.State at x name) = stmt.State at (option_map expr_view x) name
  stmt_view (held_stmt.Local at variables) = stmt.Local at (variables_view variables)
  stmt_view (held_stmt.Constant at constant) = stmt.Constant at (constant_view constant)

  -- the first one first
  pub stmts_row_view : {n : _} → held_stmt.Row_of-Stmt n → Stmts
  stmts_row_view held_stmt.end_of-Stmt = no_stmts
  stmts_row_view (held_stmt.more_of-Stmt s row) = then_stmt (stmt_view s) (stmts_row_view row)

  -- the first one first
  pub cases_row_view : {n : _} → held_stmt.Row_of-Case n → Cases
  cases_row_view held_stmt.end_of-Case = no_cases
  cases_row_view (held_stmt.more_of-Case x row) = then_case (case_view x) (cases_row_view row)

  -- values and ranges with their statement
  pub case_view : held_case.Case → Case
  case_view (held_case.Values at ranges s) = stmt.Values at (map range_view ranges) (stmt_view s)

  -- what stands behind `else` or `default`
  pub other_view : held_stmt.Held-Stmt-If-3 → MaybeStmt
  other_view held_stmt.None' = no_stmt
  other_view (held_stmt.Some' p s) = one_stmt (stmt_view s)

-- a constant of an enumeration
abbrev pub item_view : held_item.Item → Item
item_view x = record { name = x.name; value = option_map expr_view x.value }

-- one with a name, or `...`
abbrev pub param_view : held_param.Param → Param
param_view (param.Plain constant reference tags name dims value) =
    decl.Plain constant reference tags name (map dim_view dims) (option_map expr_view value)
param_view (param.Rest at tags) = decl.Rest at tags

-- the tag, the name and the parameters
abbrev pub head_view : held_head.Head → Head
head_view x = record { tag = x.tag; name = x.name; params = map param_view x.params }

-- what is said before the head, that, the classifier and the statement
abbrev pub function_view : held_function.Function → FunctionOf
function_view x = record {
  is_static = x.is_static;
  is_stock = x.is_stock;
  is_public = x.is_public;
  head = head_view x.head;
  states = x.states;
  body = stmt_view x.body;
}

-- a declaration at the level of the file
abbrev pub decl_view : held_decl.Decl → Decl
decl_view (held_decls.Variables at x) = decl.Variables at (variables_view x)
decl_view (held_decls.Constant at x) = decl.Constant at (constant_view x)
decl_view (held_decls.Enum at name items) = decl.Enum at name (map item_view items)
decl_view (held_decls.Native at head) = decl.Native at (head_view head)
decl_view (held_decls.Forward at is_public head) = decl.Forward at is_public (head_view head)
decl_view (held_decls.Function at x) = decl.Function at (function_view x)

-- the tree, whose lists, boxes and capacities aren't seen
abbrev pub tree_view : held_tree.Tree → Tree
tree_view x = map decl_view x.decls

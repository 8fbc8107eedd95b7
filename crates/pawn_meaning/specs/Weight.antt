-- The weight of a program, which bounds the cells of its code: 40 for each place, array,
-- expression, argument and statement, 2 for each value of a case, and for a function with a route
-- 10, and 2 for each of its pairs. The lean weight is the same, where an expression that folds
-- counts 40 in all.
use Rattle.std.specs.Prelude.{ℕ, ◌+◌, ◌*◌, ℤ, pos, negsuc, ◌+ℤ◌, ◌-ℤ◌, List, Bool, true, false}
use Rattle.std.specs.Prelude.{Option, None, Some, is_some, length, sum_by}
use Rattle.pawn_meaning.specs.Program.{Scalar, Global, Own, Through, Element, Char, Array, Object}
use Rattle.pawn_meaning.specs.Program.{SlotArray, ParamArray, Row, From, Expr, Const, Read, Unary}
use Rattle.pawn_meaning.specs.Program.{Binary, Chain, And, Or, Cond, Assign, Update, UpdateBy, Step}
use Rattle.pawn_meaning.specs.Program.{StepBy, Copy, Operate, OperateOne, Call, Native, Seq, Links}
use Rattle.pawn_meaning.specs.Program.{no_links, then_link, Arg, Value, Ref, Whole, Temp, Args}
use Rattle.pawn_meaning.specs.Program.{no_args, then_arg, Perhaps, Absent, Present, Stmt, Block}
use Rattle.pawn_meaning.specs.Program.{Local, LocalArray, Do, If, While, DoWhile, For, Switch}
use Rattle.pawn_meaning.specs.Program.{Return, Break, Continue, Exit, Sleep, Assert, State, Empty}
use Rattle.pawn_meaning.specs.Program.{Else, no_else, otherwise, Cases, no_cases, then_case, Stmts}
use Rattle.pawn_meaning.specs.Program.{no_stmts, then_stmt, Body, Route, Function, Program}
use Rattle.pawn_meaning.specs.declared.program_limits.TheConstants.{NODE_WEIGHT, PAIR_WEIGHT}
use Rattle.pawn_meaning.specs.declared.program_limits.TheConstants.{ROUTE_WEIGHT}
use Rattle.pawn_meaning.specs.Fold.{fold}

-- a whole number as a count: negative ones count nothing
abbrev pub counted : ℤ → ℕ
counted (pos n) = n
counted (negsuc n) = 0

-- the values from a least to a greatest one
abbrev pub values_in : ℤ × ℤ → ℕ
values_in range = counted ((range.1 -ℤ range.0) +ℤ pos 1)

-- the values of all ranges of a case
abbrev pub ranges_weight : List (ℤ × ℤ) → ℕ
ranges_weight ranges = sum_by (λ range. PAIR_WEIGHT * values_in range) ranges

-- of a route and each pair of a state and a body
abbrev pub route_weight : Option Route → ℕ
route_weight None = 0
route_weight (Some route) = ROUTE_WEIGHT + PAIR_WEIGHT * length route.cases

-- an expression that counts alone is one node, its parts nothing
abbrev pub part : Bool → ℕ → ℕ
part true cells = NODE_WEIGHT
part false cells = cells

-- which expressions count alone
module _ (alone : Expr → Bool) where
  -- of places, arrays, expressions and arguments
  abbrev mutual
    -- a node, and for a part of an array that array and the index
    pub scalar_weight : Scalar → ℕ
    scalar_weight (Global o) = NODE_WEIGHT
    scalar_weight (Own s) = NODE_WEIGHT
    scalar_weight (Through s) = NODE_WEIGHT
    scalar_weight (Element a e) = NODE_WEIGHT + (array_weight a + expr_weight e)
    scalar_weight (Char a e) = NODE_WEIGHT + (array_weight a + expr_weight e)

    -- of an array
    pub array_weight : Array → ℕ
    array_weight (Object o) = NODE_WEIGHT
    array_weight (SlotArray s) = NODE_WEIGHT
    array_weight (ParamArray s known) = NODE_WEIGHT
    array_weight (Row a e) = NODE_WEIGHT + (array_weight a + expr_weight e)
    array_weight (From a e) = NODE_WEIGHT + (array_weight a + expr_weight e)

    -- of an expression
    pub expr_weight : Expr → ℕ
    expr_weight (Const v) = NODE_WEIGHT
    expr_weight (Read p) = NODE_WEIGHT + scalar_weight p
    expr_weight (Unary op e) = part (alone (Unary op e)) (NODE_WEIGHT + expr_weight e)
    expr_weight (Binary op l r) =
        part (alone (Binary op l r)) (NODE_WEIGHT + (expr_weight l + expr_weight r))
    expr_weight (Chain e links) =
        part (alone (Chain e links)) (NODE_WEIGHT + (expr_weight e + links_weight links))
    expr_weight (And l r) = part (alone (And l r)) (NODE_WEIGHT + (expr_weight l + expr_weight r))
    expr_weight (Or l r) = part (alone (Or l r)) (NODE_WEIGHT + (expr_weight l + expr_weight r))
    expr_weight (Cond c a b) =
        part (alone (Cond c a b)) (NODE_WEIGHT + (expr_weight c + (expr_weight a + expr_weight b)))
    expr_weight (Assign p e) = NODE_WEIGHT + (scalar_weight p + expr_weight e)
    expr_weight (Update p op e) = NODE_WEIGHT + (scalar_weight p + expr_weight e)
    expr_weight (UpdateBy p f swapped e convert) = NODE_WEIGHT + (scalar_weight p + expr_weight e)
    expr_weight (Step p delta prefix) = NODE_WEIGHT + scalar_weight p
    expr_weight (StepBy p f prefix) = NODE_WEIGHT + scalar_weight p
    expr_weight (Copy to from cells) = NODE_WEIGHT + (array_weight to + array_weight from)
    expr_weight (Operate f l r swapped) = NODE_WEIGHT + (expr_weight l + expr_weight r)
    expr_weight (OperateOne f e) = NODE_WEIGHT + expr_weight e
    expr_weight (Call f args) = NODE_WEIGHT + args_weight args
    expr_weight (Native n args) = NODE_WEIGHT + args_weight args
    expr_weight (Seq a b) = NODE_WEIGHT + (expr_weight a + expr_weight b)

    -- a link is no node
    pub links_weight : Links → ℕ
    links_weight no_links = 0
    links_weight (then_link op e f swapped links) = expr_weight e + links_weight links

    -- of an argument
    pub arg_weight : Arg → ℕ
    arg_weight (Value e) = NODE_WEIGHT + expr_weight e
    arg_weight (Ref p) = NODE_WEIGHT + scalar_weight p
    arg_weight (Whole a) = NODE_WEIGHT + array_weight a
    arg_weight (Temp e) = NODE_WEIGHT + expr_weight e

    -- of arguments
    pub args_weight : Args → ℕ
    args_weight no_args = 0
    args_weight (then_arg a args) = arg_weight a + args_weight args

  -- an absent expression weighs nothing
  abbrev pub perhaps_weight : Perhaps → ℕ
  perhaps_weight Absent = 0
  perhaps_weight (Present e) = expr_weight e

  -- of statements
  abbrev mutual
    -- a node, and all that stands in it
    pub stmt_weight : Stmt → ℕ
    stmt_weight (Block stmts) = NODE_WEIGHT + stmts_weight stmts
    stmt_weight (Local s e) = NODE_WEIGHT + expr_weight e
    stmt_weight (LocalArray s o) = NODE_WEIGHT
    stmt_weight (Do e) = NODE_WEIGHT + expr_weight e
    stmt_weight (If c a b) = NODE_WEIGHT + (expr_weight c + (stmt_weight a + else_weight b))
    stmt_weight (While c s) = NODE_WEIGHT + (expr_weight c + stmt_weight s)
    stmt_weight (DoWhile s c) = NODE_WEIGHT + (stmt_weight s + expr_weight c)
    stmt_weight (For first c step s) =
        NODE_WEIGHT + (stmts_weight first
        + (perhaps_weight c + (perhaps_weight step + stmt_weight s)))
    stmt_weight (Switch e cases d) =
        NODE_WEIGHT + (expr_weight e + (cases_weight cases + else_weight d))
    stmt_weight (Return e) = NODE_WEIGHT + expr_weight e
    stmt_weight Break = NODE_WEIGHT
    stmt_weight Continue = NODE_WEIGHT
    stmt_weight (Exit e tag) = NODE_WEIGHT + expr_weight e
    stmt_weight (Sleep e tag) = NODE_WEIGHT + expr_weight e
    stmt_weight (Assert e) = NODE_WEIGHT + expr_weight e
    stmt_weight (State automaton state c) = NODE_WEIGHT + perhaps_weight c
    stmt_weight Empty = NODE_WEIGHT

    -- of a statement that may be absent
    pub else_weight : Else → ℕ
    else_weight no_else = 0
    else_weight (otherwise s) = stmt_weight s

    -- a case is no node, and each of its values counts by itself
    pub cases_weight : Cases → ℕ
    cases_weight no_cases = 0
    cases_weight (then_case ranges s cases) =
        ranges_weight ranges + (stmt_weight s + cases_weight cases)

    -- of a list of statements
    pub stmts_weight : Stmts → ℕ
    stmts_weight no_stmts = 0
    stmts_weight (then_stmt s stmts) = stmt_weight s + stmts_weight stmts

  -- all bodies of a function, and its route
  abbrev pub function_weight : Function → ℕ
  function_weight function =
      route_weight function.dispatch
      + sum_by (λ (body : Body). stmt_weight body.stmt) function.bodies

  -- all functions of a program
  abbrev pub weight_by : Program → ℕ
  weight_by program = sum_by function_weight program.functions

-- no expression counts alone
abbrev pub never : Expr → Bool
never e = false

-- the weight of a program
abbrev pub weight : Program → ℕ
weight program = weight_by never program

-- those that fold count alone
abbrev pub folds : Expr → Bool
folds e = is_some (fold e)

-- which expressions count alone: in the lean weight those that fold, in the other none
abbrev pub alone_in : Bool → Expr → Bool
alone_in true = folds
alone_in false = never

-- its weight where an expression that folds counts alone
abbrev pub lean : Program → ℕ
lean program = weight_by folds program

-- The lean weight is at most the weight: what counts alone counts no more than with its parts.
use Rattle.std.proofs.Common.{◌+◌, ◌≤◌, ℕ, Bool, true, false, List, [], ◌∷◌, arith}
use Rattle.std.specs.Prelude.{sum_by}
use Rattle.std.proofs.lemmas.List.Sums.{sum_by-cons}
use Rattle.pawn_meaning.specs.Program.{Scalar, Global, Own, Through, Element, Char, Array, Object}
use Rattle.pawn_meaning.specs.Program.{SlotArray, ParamArray, Row, From, Expr, Const, Read, Unary}
use Rattle.pawn_meaning.specs.Program.{Binary, Chain, And, Or, Cond, Assign, Update, UpdateBy, Step}
use Rattle.pawn_meaning.specs.Program.{StepBy, Copy, Operate, OperateOne, Call, Native, Seq, Links}
use Rattle.pawn_meaning.specs.Program.{no_links, then_link, Arg, Value, Ref, Whole, Temp, Args}
use Rattle.pawn_meaning.specs.Program.{no_args, then_arg, Perhaps, Absent, Present, Stmt, Block}
use Rattle.pawn_meaning.specs.Program.{Local, LocalArray, Do, If, While, DoWhile, For, Switch}
use Rattle.pawn_meaning.specs.Program.{Return, Break, Continue, Exit, Sleep, Assert, State, Empty}
use Rattle.pawn_meaning.specs.Program.{Else, no_else, otherwise, Cases, no_cases, then_case, Stmts}
use Rattle.pawn_meaning.specs.Program.{no_stmts, then_stmt, Body, Function, Program}
use Rattle.pawn_meaning.specs.Weight.{part, scalar_weight, array_weight, expr_weight, links_weight}
use Rattle.pawn_meaning.specs.Weight.{arg_weight, args_weight, perhaps_weight, stmt_weight}
use Rattle.pawn_meaning.specs.Weight.{else_weight, cases_weight, stmts_weight, function_weight}
use Rattle.pawn_meaning.specs.Weight.{weight, lean, folds, never}
use Rattle.pawn_meaning.specs.declared.program_limits.TheConstants.{NODE_WEIGHT}

part_below : (alone : Bool) (m n : ℕ) → NODE_WEIGHT + m ≤ NODE_WEIGHT + n
    → part alone (NODE_WEIGHT + m) ≤ NODE_WEIGHT + n
part_below true m n h = omega arith
part_below false m n h = h

mutual
  scalar_below : (p : Scalar) → scalar_weight folds p ≤ scalar_weight never p
  scalar_below (Global o) = omega arith
  scalar_below (Own s) = omega arith
  scalar_below (Through s) = omega arith
  scalar_below (Element a e) = omega (arith, array_below a, expr_below e)
  scalar_below (Char a e) = omega (arith, array_below a, expr_below e)

  array_below : (a : Array) → array_weight folds a ≤ array_weight never a
  array_below (Object o) = omega arith
  array_below (SlotArray s) = omega arith
  array_below (ParamArray s known) = omega arith
  array_below (Row a e) = omega (arith, array_below a, expr_below e)
  array_below (From a e) = omega (arith, array_below a, expr_below e)

  expr_below : (e : Expr) → expr_weight folds e ≤ expr_weight never e
  expr_below (Const v) = omega arith
  expr_below (Read p) = omega (arith, scalar_below p)
  expr_below (Unary o e) =
      part_below (folds (Unary o e)) (expr_weight folds e) (expr_weight never e)
      (omega (arith, expr_below e))
  expr_below (Binary o l r) =
      part_below (folds (Binary o l r)) (expr_weight folds l + expr_weight folds r)
      (expr_weight never l + expr_weight never r) (omega (arith, expr_below l, expr_below r))
  expr_below (Chain e links) =
      part_below (folds (Chain e links)) (expr_weight folds e + links_weight folds links)
      (expr_weight never e + links_weight never links)
      (omega (arith, expr_below e, links_below links))
  expr_below (And l r) =
      part_below (folds (And l r)) (expr_weight folds l + expr_weight folds r)
      (expr_weight never l + expr_weight never r) (omega (arith, expr_below l, expr_below r))
  expr_below (Or l r) =
      part_below (folds (Or l r)) (expr_weight folds l + expr_weight folds r)
      (expr_weight never l + expr_weight never r) (omega (arith, expr_below l, expr_below r))
  expr_below (Cond c a b) =
      part_below (folds (Cond c a b))
      (expr_weight folds c + (expr_weight folds a + expr_weight folds b))
      (expr_weight never c + (expr_weight never a + expr_weight never b))
      (omega (arith, expr_below c, expr_below a, expr_below b))
  expr_below (Assign p e) = omega (arith, scalar_below p, expr_below e)
  expr_below (Update p o e) = omega (arith, scalar_below p, expr_below e)
  expr_below (UpdateBy p f swapped e convert) = omega (arith, scalar_below p, expr_below e)
  expr_below (Step p delta prefix) = omega (arith, scalar_below p)
  expr_below (StepBy p f prefix) = omega (arith, scalar_below p)
  expr_below (Copy to from cells) = omega (arith, array_below to, array_below from)
  expr_below (Operate f l r swapped) = omega (arith, expr_below l, expr_below r)
  expr_below (OperateOne f e) = omega (arith, expr_below e)
  expr_below (Call f args) = omega (arith, args_below args)
  expr_below (Native n args) = omega (arith, args_below args)
  expr_below (Seq a b) = omega (arith, expr_below a, expr_below b)

  links_below : (links : Links) → links_weight folds links ≤ links_weight never links
  links_below no_links = omega arith
  links_below (then_link o e f swapped links) = omega (arith, expr_below e, links_below links)

  arg_below : (a : Arg) → arg_weight folds a ≤ arg_weight never a
  arg_below (Value e) = omega (arith, expr_below e)
  arg_below (Ref p) = omega (arith, scalar_below p)
  arg_below (Whole a) = omega (arith, array_below a)
  arg_below (Temp e) = omega (arith, expr_below e)

  args_below : (args : Args) → args_weight folds args ≤ args_weight never args
  args_below no_args = omega arith
  args_below (then_arg a args) = omega (arith, arg_below a, args_below args)

perhaps_below : (e : Perhaps) → perhaps_weight folds e ≤ perhaps_weight never e
perhaps_below Absent = omega arith
perhaps_below (Present e) = expr_below e

mutual
  stmt_below : (s : Stmt) → stmt_weight folds s ≤ stmt_weight never s
  stmt_below (Block stmts) = omega (arith, stmts_below stmts)
  stmt_below (Local s e) = omega (arith, expr_below e)
  stmt_below (LocalArray s o) = omega arith
  stmt_below (Do e) = omega (arith, expr_below e)
  stmt_below (If c a b) = omega (arith, expr_below c, stmt_below a, else_below b)
  stmt_below (While c s) = omega (arith, expr_below c, stmt_below s)
  stmt_below (DoWhile s c) = omega (arith, expr_below c, stmt_below s)
  stmt_below (For first c step s) =
      omega (arith, stmts_below first, perhaps_below c, perhaps_below step, stmt_below s)
  stmt_below (Switch e cases d) = omega (arith, expr_below e, cases_below cases, else_below d)
  stmt_below (Return e) = omega (arith, expr_below e)
  stmt_below Break = omega arith
  stmt_below Continue = omega arith
  stmt_below (Exit e tag) = omega (arith, expr_below e)
  stmt_below (Sleep e tag) = omega (arith, expr_below e)
  stmt_below (Assert e) = omega (arith, expr_below e)
  stmt_below (State automaton state c) = omega (arith, perhaps_below c)
  stmt_below Empty = omega arith

  else_below : (s : Else) → else_weight folds s ≤ else_weight never s
  else_below no_else = omega arith
  else_below (otherwise s) = stmt_below s

  cases_below : (cases : Cases) → cases_weight folds cases ≤ cases_weight never cases
  cases_below no_cases = omega arith
  cases_below (then_case ranges s cases) = omega (arith, stmt_below s, cases_below cases)

  stmts_below : (stmts : Stmts) → stmts_weight folds stmts ≤ stmts_weight never stmts
  stmts_below no_stmts = omega arith
  stmts_below (then_stmt s stmts) = omega (arith, stmt_below s, stmts_below stmts)

bodies_below : (bodies : List Body)
    → sum_by (λ (body : Body). stmt_weight folds body.stmt) bodies
    ≤ sum_by (λ (body : Body). stmt_weight never body.stmt) bodies
bodies_below [] = omega arith
bodies_below (body ∷ bodies) =
    omega (
      arith,
      sum_by-cons (λ (it : Body). stmt_weight folds it.stmt) body bodies,
      sum_by-cons (λ (it : Body). stmt_weight never it.stmt) body bodies,
      stmt_below body.stmt,
      bodies_below bodies,
    )

functions_below : (functions : List Function)
    → sum_by (function_weight folds) functions ≤ sum_by (function_weight never) functions
functions_below [] = omega arith
functions_below (function ∷ functions) =
    omega (
      arith,
      sum_by-cons (function_weight folds) function functions,
      sum_by-cons (function_weight never) function functions,
      bodies_below function.bodies,
      functions_below functions,
    )

pub lean_below : (program : Program) → lean program ≤ weight program
lean_below program = functions_below program.functions

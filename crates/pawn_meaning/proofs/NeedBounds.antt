-- What an expression keeps is no more than it weighs, node by node.
use Rattle.std.proofs.Common.{◌≡◌, ◌+◌, ◌*◌, ◌≤◌, ℕ, zero, suc, max, List, [], ◌∷◌, map, Some}
use Rattle.std.proofs.Common.{length, slice_get, arith}
use Rattle.std.specs.List.{All, sum_by}
use Rattle.std.proofs.lemmas.List.Elements.{All-head, All-tail}
use Rattle.std.proofs.lemmas.List.Sums.{sum_by-cons}
use Rattle.pawn_meaning.specs.Program.{Scalar, Global, Own, Through, Element, Char, Array, Object}
use Rattle.pawn_meaning.specs.Program.{SlotArray, ParamArray, Row, From, Expr, Const, Read, Unary}
use Rattle.pawn_meaning.specs.Program.{Binary, Chain, And, Or, Cond, Assign, Update, UpdateBy, Step}
use Rattle.pawn_meaning.specs.Program.{StepBy, Copy, Operate, OperateOne, Call, Native, Seq, Links}
use Rattle.pawn_meaning.specs.Program.{no_links, then_link, Arg, Value, Ref, Whole, Temp, Args}
use Rattle.pawn_meaning.specs.Program.{no_args, then_arg, Perhaps, Absent, Present, Stmt, Block}
use Rattle.pawn_meaning.specs.Program.{Local, LocalArray, Do, If, While, DoWhile, For, Switch}
use Rattle.pawn_meaning.specs.Program.{Return, Break, Continue, Exit, Sleep, Assert, State, Empty}
use Rattle.pawn_meaning.specs.Program.{Else, no_else, otherwise, Cases, no_cases, then_case, Stmts}
use Rattle.pawn_meaning.specs.Program.{no_stmts, then_stmt, Body, Function, Program}
use Rattle.pawn_meaning.specs.Limits.{IsWithinLimits, IsWithinFunction, IsWithinBody}
use Rattle.pawn_meaning.specs.declared.program_limits.TheConstants.{LOCALS_LIMIT}
use Rattle.pawn_meaning.specs.Need.{greatest, count_of, place_load, array_load, load, links_load}
use Rattle.pawn_meaning.specs.Need.{arg_load, args_load, perhaps_load, stmt_load, else_load}
use Rattle.pawn_meaning.specs.Need.{cases_load, stmts_load, locals, greatest_locals, greatest_load}
use Rattle.pawn_meaning.specs.Need.{need}
use Rattle.pawn_meaning.specs.NeedIsSmall.{NeedIsSmall}
use Rattle.pawn_meaning.specs.Weight.{never, scalar_weight, array_weight, expr_weight, links_weight}
use Rattle.pawn_meaning.specs.Weight.{arg_weight, args_weight, perhaps_weight, stmt_weight}
use Rattle.pawn_meaning.specs.Weight.{else_weight, cases_weight, stmts_weight, ranges_weight}
use Rattle.pawn_meaning.specs.Weight.{function_weight}

mutual
  place_low : (p : Scalar) → place_load p ≤ scalar_weight never p
  place_low (Global o) = omega arith
  place_low (Own s) = omega arith
  place_low (Through s) = omega arith
  place_low (Element a e) = omega (arith, array_low a, load_low e)
  place_low (Char a e) = omega (arith, array_low a, load_low e)

  array_low : (a : Array) → array_load a ≤ array_weight never a
  array_low (Object o) = omega arith
  array_low (SlotArray s) = omega arith
  array_low (ParamArray s known) = omega arith
  array_low (Row a e) = omega (arith, array_low a, load_low e)
  array_low (From a e) = omega (arith, array_low a, load_low e)

  load_low : (e : Expr) → load e ≤ expr_weight never e
  load_low (Const v) = omega arith
  load_low (Read p) = omega (arith, place_low p)
  load_low (Unary op e) = omega (arith, load_low e)
  load_low (Binary op l r) = omega (arith, load_low l, load_low r)
  load_low (Chain e links) = omega (arith, load_low e, links_low links)
  load_low (And l r) = omega (arith, load_low l, load_low r)
  load_low (Or l r) = omega (arith, load_low l, load_low r)
  load_low (Cond c a b) = omega (arith, load_low c, load_low a, load_low b)
  load_low (Assign p e) = omega (arith, place_low p, load_low e)
  load_low (Update p op e) = omega (arith, place_low p, load_low e)
  load_low (UpdateBy p f swapped e convert) = omega (arith, place_low p, load_low e)
  load_low (Step p delta prefix) = omega (arith, place_low p)
  load_low (StepBy p f prefix) = omega (arith, place_low p)
  load_low (Copy to from cells) = omega (arith, array_low to, array_low from)
  load_low (Operate f l r swapped) = omega (arith, load_low l, load_low r)
  load_low (OperateOne f e) = omega (arith, load_low e)
  load_low (Call f args) = omega (arith, args_low args)
  load_low (Native n args) = omega (arith, args_low args)
  load_low (Seq a b) = omega (arith, load_low a, load_low b)

  links_low : (links : Links) → links_load links ≤ links_weight never links
  links_low no_links = omega arith
  links_low (then_link op e f swapped links) = omega (arith, load_low e, links_low links)

  arg_low : (a : Arg) → arg_load a + 40 ≤ arg_weight never a
  arg_low (Value e) = omega (arith, load_low e)
  arg_low (Ref p) = omega (arith, place_low p)
  arg_low (Whole a) = omega (arith, array_low a)
  arg_low (Temp e) = omega (arith, load_low e)

  args_low : (args : Args) → 2 * count_of args + args_load args ≤ args_weight never args
  args_low no_args = omega arith
  args_low (then_arg a args) = omega (arith, arg_low a, args_low args)

perhaps_low : (e : Perhaps) → perhaps_load e ≤ perhaps_weight never e
perhaps_low Absent = omega arith
perhaps_low (Present e) = load_low e

mutual
  stmt_low : (s : Stmt) → stmt_load s ≤ stmt_weight never s
  stmt_low (Block stmts) = omega (arith, stmts_low stmts)
  stmt_low (Local s e) = omega (arith, load_low e)
  stmt_low (LocalArray s o) = omega arith
  stmt_low (Do e) = omega (arith, load_low e)
  stmt_low (If c a b) = omega (arith, load_low c, stmt_low a, else_low b)
  stmt_low (While c s) = omega (arith, load_low c, stmt_low s)
  stmt_low (DoWhile s c) = omega (arith, load_low c, stmt_low s)
  stmt_low (For first c step s) =
      omega (arith, stmts_low first, perhaps_low c, perhaps_low step, stmt_low s)
  stmt_low (Switch e cases d) = omega (arith, load_low e, cases_low cases, else_low d)
  stmt_low (Return e) = omega (arith, load_low e)
  stmt_low Break = omega arith
  stmt_low Continue = omega arith
  stmt_low (Exit e tag) = omega (arith, load_low e)
  stmt_low (Sleep e tag) = omega (arith, load_low e)
  stmt_low (Assert e) = omega (arith, load_low e)
  stmt_low (State automaton state c) = omega (arith, perhaps_low c)
  stmt_low Empty = omega arith

  else_low : (b : Else) → else_load b ≤ else_weight never b
  else_low no_else = omega arith
  else_low (otherwise s) = stmt_low s

  cases_low : (cases : Cases) → cases_load cases ≤ cases_weight never cases
  cases_low no_cases = omega arith
  cases_low (then_case ranges s cases) = omega (arith, stmt_low s, cases_low cases)

  stmts_low : (stmts : Stmts) → stmts_load stmts ≤ stmts_weight never stmts
  stmts_low no_stmts = omega arith
  stmts_low (then_stmt s stmts) = omega (arith, stmt_low s, stmts_low stmts)

bodies_low : (bodies : List Body)
    → greatest_load bodies ≤ sum_by (λ (body : Body). stmt_weight never body.stmt) bodies
bodies_low [] = omega arith
bodies_low (body ∷ bodies) =
    omega (
      arith,
      stmt_low body.stmt,
      bodies_low bodies,
      sum_by-cons (λ (it : Body). stmt_weight never it.stmt) body bodies,
    )

function_low : (fs : List Function) (i : ℕ) (f : Function) → slice_get fs i ≡ Some f
    → greatest_load f.bodies ≤ sum_by (function_weight never) fs
function_low [] i f e = absurd (cc)
function_low (g ∷ fs) zero f e =
    let same : g ≡ f = cc in
    rw (← same) (omega (arith, bodies_low g.bodies, sum_by-cons (function_weight never) g fs))
function_low (g ∷ fs) (suc i) f e =
    omega (arith, function_low fs i f e, sum_by-cons (function_weight never) g fs)

bodies_within : (bodies : List Body) → All IsWithinBody bodies
    → greatest_locals bodies ≤ LOCALS_LIMIT
bodies_within [] h = omega arith
bodies_within (body ∷ bodies) h =
    omega (
      arith,
      (All-head IsWithinBody body bodies h).locals,
      bodies_within bodies (All-tail IsWithinBody body bodies h),
    )

function_within : (fs : List Function) (i : ℕ) (f : Function) → All IsWithinFunction fs
    → slice_get fs i ≡ Some f → greatest_locals f.bodies ≤ LOCALS_LIMIT
function_within [] i f h e = absurd (cc)
function_within (g ∷ fs) zero f h e =
    let same : g ≡ f = cc in
    rw (← same) (bodies_within g.bodies (All-head IsWithinFunction g fs h).bodies)
function_within (g ∷ fs) (suc i) f h e = function_within fs i f (All-tail IsWithinFunction g fs h) e

pub need_is_small_lem : NeedIsSmall
need_is_small_lem program f function within there =
    omega (
      arith,
      within.weight,
      function_low program.functions f function there,
      function_within program.functions f function within.functions there,
    )

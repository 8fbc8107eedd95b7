-- The need of a function: the cells that one call of it keeps on the stack and the heap at most, by
-- the source alone. It is the sum of the number of its parameters, of 3, of the greatest sum of
-- local cells on a path of blocks, and of the greatest load of an expression.
use Rattle.std.specs.Prelude.{ℕ, suc, ◌+◌, ◌*◌, List, [], ◌∷◌, Option, None, Some, max, map, length}
use Rattle.std.specs.Prelude.{slice_get}
use Rattle.pawn_arrays.specs.Sizes.{cells_of}
use Rattle.pawn_meaning.specs.Program.{Scalar, Global, Own, Through, Element, Char, Array, Object}
use Rattle.pawn_meaning.specs.Program.{SlotArray, ParamArray, Row, From, Expr, Const, Read, Unary}
use Rattle.pawn_meaning.specs.Program.{Binary, Chain, And, Or, Cond, Assign, Update, UpdateBy, Step}
use Rattle.pawn_meaning.specs.Program.{StepBy, Copy, Operate, OperateOne, Call, Native, Seq, Links}
use Rattle.pawn_meaning.specs.Program.{no_links, then_link, Arg, Value, Ref, Whole, Temp, Args}
use Rattle.pawn_meaning.specs.Program.{no_args, then_arg, Perhaps, Absent, Present, Stmt, Block}
use Rattle.pawn_meaning.specs.Program.{Local, LocalArray, Do, If, While, DoWhile, For, Switch}
use Rattle.pawn_meaning.specs.Program.{Return, Break, Continue, Exit, Sleep, Assert, State, Empty}
use Rattle.pawn_meaning.specs.Program.{Else, no_else, otherwise, Cases, no_cases, then_case, Stmts}
use Rattle.pawn_meaning.specs.Program.{no_stmts, then_stmt, Slot, ScalarSlot, ReferenceSlot}
use Rattle.pawn_meaning.specs.Program.{ArraySlot, OpenSlot, Body, Function}

-- the greatest of some numbers, 0 of none
abbrev pub greatest : List ℕ → ℕ
greatest [] = 0
greatest (n ∷ ns) = max n (greatest ns)

-- the arguments of a call
abbrev pub count_of : Args → ℕ
count_of no_args = 0
count_of (then_arg a args) = suc (count_of args)

-- ---- loads

-- the cells that an expression keeps while its parts are evaluated. `Element`, `Char`, `Row` and
-- `From` count as nodes; what holds a place, an array or an argument has its load
abbrev mutual
  -- what the parts of a place keep while it is found
  pub place_load : Scalar → ℕ
  place_load (Global o) = 0
  place_load (Own s) = 0
  place_load (Through s) = 0
  place_load (Element a e) = 1 + max (array_load a) (load e)
  place_load (Char a e) = 1 + max (array_load a) (load e)

  -- of an array
  pub array_load : Array → ℕ
  array_load (Object o) = 0
  array_load (SlotArray s) = 0
  array_load (ParamArray s known) = 0
  array_load (Row a e) = 1 + max (array_load a) (load e)
  array_load (From a e) = 1 + max (array_load a) (load e)

  -- of an expression
  pub load : Expr → ℕ
  load (Const v) = 0
  load (Read p) = place_load p
  load (Unary o e) = 1 + load e
  load (Binary o l r) = 1 + max (load l) (load r)
  load (Chain e links) = 2 + max (load e) (links_load links)
  load (And l r) = 1 + max (load l) (load r)
  load (Or l r) = 1 + max (load l) (load r)
  load (Cond c a b) = 1 + max (load c) (max (load a) (load b))
  load (Assign p e) = 1 + max (place_load p) (load e)
  load (Update p o e) = 1 + max (place_load p) (load e)
  load (UpdateBy p f swapped e convert) = 5 + max (place_load p) (load e)
  load (Step p delta prefix) = 1 + place_load p
  load (StepBy p f prefix) = 3 + place_load p
  load (Copy to from cells) = 1 + max (array_load to) (array_load from)
  load (Operate f l r swapped) = 5 + max (load l) (load r)
  load (OperateOne f e) = 3 + load e
  load (Call f args) = 2 * count_of args + 1 + args_load args
  load (Native n args) = 2 * count_of args + 1 + args_load args
  load (Seq a b) = 1 + max (load a) (load b)

  -- of the links of a chain
  pub links_load : Links → ℕ
  links_load no_links = 0
  links_load (then_link o e f swapped links) = max (load e) (links_load links)

  -- of an argument
  pub arg_load : Arg → ℕ
  arg_load (Value e) = load e
  arg_load (Ref p) = place_load p
  arg_load (Whole a) = array_load a
  arg_load (Temp e) = load e

  -- of arguments
  pub args_load : Args → ℕ
  args_load no_args = 0
  args_load (then_arg a args) = max (arg_load a) (args_load args)

-- an absent expression keeps nothing
abbrev pub perhaps_load : Perhaps → ℕ
perhaps_load Absent = 0
perhaps_load (Present e) = load e

-- the greatest load in a statement
abbrev mutual
  -- the greatest load of an expression in a statement
  pub stmt_load : Stmt → ℕ
  stmt_load (Block stmts) = stmts_load stmts
  stmt_load (Local s e) = load e
  stmt_load (LocalArray s o) = 0
  stmt_load (Do e) = load e
  stmt_load (If c a b) = max (load c) (max (stmt_load a) (else_load b))
  stmt_load (While c s) = max (load c) (stmt_load s)
  stmt_load (DoWhile s c) = max (load c) (stmt_load s)
  stmt_load (For first c step s) =
      max (stmts_load first) (max (perhaps_load c) (max (perhaps_load step) (stmt_load s)))
  stmt_load (Switch e cases d) = max (load e) (max (cases_load cases) (else_load d))
  stmt_load (Return e) = load e
  stmt_load Break = 0
  stmt_load Continue = 0
  stmt_load (Exit e tag) = load e
  stmt_load (Sleep e tag) = load e
  stmt_load (Assert e) = load e
  stmt_load (State automaton state c) = perhaps_load c
  stmt_load Empty = 0

  -- of a statement that may be absent
  pub else_load : Else → ℕ
  else_load no_else = 0
  else_load (otherwise s) = stmt_load s

  -- of cases
  pub cases_load : Cases → ℕ
  cases_load no_cases = 0
  cases_load (then_case ranges s cases) = max (stmt_load s) (cases_load cases)

  -- of a list of statements
  pub stmts_load : Stmts → ℕ
  stmts_load no_stmts = 0
  stmts_load (then_stmt s stmts) = max (stmt_load s) (stmts_load stmts)

-- ---- locals

-- the cells that a local slot takes, offsets among them
abbrev pub slot_size : Option Slot → ℕ
slot_size None = 0
slot_size (Some ScalarSlot) = 1
slot_size (Some ReferenceSlot) = 1
slot_size (Some (ArraySlot sizes)) = cells_of sizes
slot_size (Some (OpenSlot sizes)) = 1

module _ (slots : List Slot) where
  -- the greatest sum of local cells on a path of blocks: a block has all its own, wherever they
  -- stand in it, and those of its greatest inner block. A `for` with what it does first is a block
  abbrev mutual
    -- the greatest sum of local cells on a path of blocks within a statement
    pub locals : Stmt → ℕ
    locals (Block stmts) = own_locals stmts + inner_locals stmts
    locals (Local s e) = 0
    locals (LocalArray s o) = 0
    locals (Do e) = 0
    locals (If c a b) = max (locals a) (else_locals b)
    locals (While c s) = locals s
    locals (DoWhile s c) = locals s
    locals (For first c step s) = own_locals first + max (inner_locals first) (locals s)
    locals (Switch e cases d) = max (cases_locals cases) (else_locals d)
    locals (Return e) = 0
    locals Break = 0
    locals Continue = 0
    locals (Exit e tag) = 0
    locals (Sleep e tag) = 0
    locals (Assert e) = 0
    locals (State automaton state c) = 0
    locals Empty = 0

    -- of a statement that may be absent
    pub else_locals : Else → ℕ
    else_locals no_else = 0
    else_locals (otherwise s) = locals s

    -- of cases
    pub cases_locals : Cases → ℕ
    cases_locals no_cases = 0
    cases_locals (then_case ranges s cases) = max (locals s) (cases_locals cases)

    -- of the greatest block that stands in a list
    pub inner_locals : Stmts → ℕ
    inner_locals no_stmts = 0
    inner_locals (then_stmt s stmts) = max (locals s) (inner_locals stmts)

    -- the cells that a statement of a list makes for the list
    pub made_by : Stmt → ℕ
    made_by (Block stmts) = 0
    made_by (Local s e) = slot_size (slice_get slots s)
    made_by (LocalArray s o) = slot_size (slice_get slots s)
    made_by (Do e) = 0
    made_by (If c a b) = 0
    made_by (While c s) = 0
    made_by (DoWhile s c) = 0
    made_by (For first c step s) = 0
    made_by (Switch e cases d) = 0
    made_by (Return e) = 0
    made_by Break = 0
    made_by Continue = 0
    made_by (Exit e tag) = 0
    made_by (Sleep e tag) = 0
    made_by (Assert e) = 0
    made_by (State automaton state c) = 0
    made_by Empty = 0

    -- of a list itself
    pub own_locals : Stmts → ℕ
    own_locals no_stmts = 0
    own_locals (then_stmt s stmts) = made_by s + own_locals stmts

-- the greatest sums over all bodies, each for itself
abbrev pub greatest_locals : List Body → ℕ
greatest_locals bodies = greatest (map (λ (body : Body). locals body.slots body.stmt) bodies)

-- and the greatest loads
abbrev pub greatest_load : List Body → ℕ
greatest_load bodies = greatest (map (λ (body : Body). stmt_load body.stmt) bodies)

-- of a function
abbrev pub need : Function → ℕ
need function =
    length function.params + 3 + greatest_locals function.bodies + greatest_load function.bodies

-- The functions that are called in the nodes of a typed program, as often as there are calls: by a
-- call, by a user's operator wherever one may stand, and by a switch of state.
use Rattle.std.specs.Prelude.{ℕ, List, [], ◌∷◌, ◌++◌, Option, None, Some, flat_map, slice_get}
use Rattle.pawn_meaning.specs.Program.{Scalar, Global, Own, Through, Element, Char, Array, Object}
use Rattle.pawn_meaning.specs.Program.{SlotArray, ParamArray, Row, From, Expr, Const, Read, Unary}
use Rattle.pawn_meaning.specs.Program.{Binary, Chain, And, Or, Cond, Assign, Update, UpdateBy, Step}
use Rattle.pawn_meaning.specs.Program.{StepBy, Copy, Operate, OperateOne, Call, Native, Seq, Links}
use Rattle.pawn_meaning.specs.Program.{no_links, then_link, Arg, Value, Ref, Whole, Temp, Args}
use Rattle.pawn_meaning.specs.Program.{no_args, then_arg, Perhaps, Absent, Present, Stmt, Block}
use Rattle.pawn_meaning.specs.Program.{Local, LocalArray, Do, If, While, DoWhile, For, Switch}
use Rattle.pawn_meaning.specs.Program.{Return, Break, Continue, Exit, Sleep, Assert, State, Empty}
use Rattle.pawn_meaning.specs.Program.{Else, no_else, otherwise, Cases, no_cases, then_case, Stmts}
use Rattle.pawn_meaning.specs.Program.{no_stmts, then_stmt, Body, Function, Program}
use Rattle.pawn_meaning.specs.Calls.{enter_of}

-- a function that may be absent
abbrev pub at_most_one : Option ℕ → List ℕ
at_most_one None = []
at_most_one (Some f) = f ∷ []

-- ---- expressions

abbrev mutual
  -- in a place
  pub called_in_place : Scalar → List ℕ
  called_in_place (Global o) = []
  called_in_place (Own s) = []
  called_in_place (Through s) = []
  called_in_place (Element a e) = called_in_array a ++ called e
  called_in_place (Char a e) = called_in_array a ++ called e

  -- in an array
  pub called_in_array : Array → List ℕ
  called_in_array (Object o) = []
  called_in_array (SlotArray s) = []
  called_in_array (ParamArray s known) = []
  called_in_array (Row a e) = called_in_array a ++ called e
  called_in_array (From a e) = called_in_array a ++ called e

  -- in an expression
  pub called : Expr → List ℕ
  called (Const v) = []
  called (Read p) = called_in_place p
  called (Unary op e) = called e
  called (Binary op l r) = called l ++ called r
  called (Chain e links) = called e ++ called_in_links links
  called (And l r) = called l ++ called r
  called (Or l r) = called l ++ called r
  called (Cond c a b) = called c ++ (called a ++ called b)
  called (Assign p e) = called_in_place p ++ called e
  called (Update p op e) = called_in_place p ++ called e
  called (UpdateBy p f swapped e convert) =
      called_in_place p ++ (called e ++ (at_most_one convert ++ f ∷ []))
  called (Step p delta prefix) = called_in_place p
  called (StepBy p f prefix) = called_in_place p ++ f ∷ []
  called (Copy to from cells) = called_in_array to ++ called_in_array from
  called (Operate f l r swapped) = called l ++ (called r ++ f ∷ [])
  called (OperateOne f e) = called e ++ f ∷ []
  called (Call f args) = called_in_args args ++ f ∷ []
  called (Native n args) = called_in_args args
  called (Seq a b) = called a ++ called b

  -- in the links of a chain
  pub called_in_links : Links → List ℕ
  called_in_links no_links = []
  called_in_links (then_link op e f swapped links) =
      (called e ++ at_most_one f) ++ called_in_links links

  -- in an argument
  pub called_in_arg : Arg → List ℕ
  called_in_arg (Value e) = called e
  called_in_arg (Ref p) = called_in_place p
  called_in_arg (Whole a) = called_in_array a
  called_in_arg (Temp e) = called e

  -- in arguments
  pub called_in_args : Args → List ℕ
  called_in_args no_args = []
  called_in_args (then_arg a args) = called_in_arg a ++ called_in_args args

-- in an expression that may be absent
abbrev pub called_perhaps : Perhaps → List ℕ
called_perhaps Absent = []
called_perhaps (Present e) = called e

-- ---- statements

module _ (program : Program) where
  -- by a switch of an automaton's state
  abbrev pub called_by_switch : ℕ → List ℕ
  called_by_switch automaton = at_most_one (enter_of (slice_get program.automata automaton))

  abbrev mutual
    -- in a statement
    pub called_by : Stmt → List ℕ
    called_by (Block stmts) = called_by_all stmts
    called_by (Local s e) = called e
    called_by (LocalArray s o) = []
    called_by (Do e) = called e
    called_by (If c a b) = called c ++ (called_by a ++ called_by_else b)
    called_by (While c s) = called c ++ called_by s
    called_by (DoWhile s c) = called_by s ++ called c
    called_by (For first c step s) =
        called_by_all first ++ (called_perhaps c ++ (called_perhaps step ++ called_by s))
    called_by (Switch e cases d) = called e ++ (called_by_cases cases ++ called_by_else d)
    called_by (Return e) = called e
    called_by Break = []
    called_by Continue = []
    called_by (Exit e tag) = called e
    called_by (Sleep e tag) = called e
    called_by (Assert e) = called e
    called_by (State automaton state c) = called_perhaps c ++ called_by_switch automaton
    called_by Empty = []

    -- in a statement that may be absent
    pub called_by_else : Else → List ℕ
    called_by_else no_else = []
    called_by_else (otherwise s) = called_by s

    -- in cases
    pub called_by_cases : Cases → List ℕ
    called_by_cases no_cases = []
    called_by_cases (then_case ranges s cases) = called_by s ++ called_by_cases cases

    -- in a list of statements
    pub called_by_all : Stmts → List ℕ
    called_by_all no_stmts = []
    called_by_all (then_stmt s stmts) = called_by s ++ called_by_all stmts

  -- in bodies, one after another
  abbrev pub called_by_bodies : List Body → List ℕ
  called_by_bodies bodies = flat_map (λ (body : Body). called_by body.stmt) bodies

  -- in all bodies of a function, none where there is no such function
  abbrev pub called_from : Option Function → List ℕ
  called_from None = []
  called_from (Some function) = called_by_bodies function.bodies

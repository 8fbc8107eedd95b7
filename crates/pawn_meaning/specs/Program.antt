-- Typed programs as plain data (Language Guide, "Statements", "Operators and expressions",
-- "Arrays").
-- Objects, functions, natives, automata, states and slots are named by their numbers, from 0.
use Rattle.std.specs.Prelude.{ℕ, ℤ, Bool, List, Option}
use Rattle.pawn_cells.specs.declared.operator.Prefix.{Prefix}
use Rattle.pawn_cells.specs.declared.operator.Operator.{Operator}
use Rattle.pawn_cells.specs.declared.operator.Comparison.{Comparison}

mutual
  -- a place of one cell, or of one packed character
  pub data Scalar : Type 0 where
    -- the first cell of an object
    Global : ℕ → Scalar
    -- the own cell of a slot
    Own : ℕ → Scalar
    -- the cell that a slot refers to
    Through : ℕ → Scalar
    -- by an index into an array of one dimension
    Element : Array → Expr → Scalar
    Char : Array → Expr → Scalar

  -- an array, or a part of one
  pub data Array : Type 0 where
    Object : ℕ → Array
    -- the array that a slot made
    SlotArray : ℕ → Array
    -- the array that a parameter refers to, and whether its size is known
    ParamArray : ℕ → Bool → Array
    -- what a first index leads to, in two or three dimensions
    Row : Array → Expr → Array
    -- the rest of one dimension from an element on
    From : Array → Expr → Array

  -- an expression, whose value is a cell
  pub data Expr : Type 0 where
    Const : ℤ → Expr
    Read : Scalar → Expr
    Unary : Prefix → Expr → Expr
    Binary : Operator → Expr → Expr → Expr
    Chain : Expr → Links → Expr
    And : Expr → Expr → Expr
    Or : Expr → Expr → Expr
    Cond : Expr → Expr → Expr → Expr
    Assign : Scalar → Expr → Expr
    Update : Scalar → Operator → Expr → Expr
    -- by a user's operator, its operands exchanged or not, and what converts its value
    UpdateBy : Scalar → ℕ → Bool → Expr → Option ℕ → Expr
    -- by 1 or -1, and whether the new value is that of the expression
    Step : Scalar → ℤ → Bool → Expr
    -- by a user's operator
    StepBy : Scalar → ℕ → Bool → Expr
    -- to the first array from the second, so many cells
    Copy : Array → Array → ℕ → Expr
    -- a user's operator on two operands, exchanged or not, and on one
    Operate : ℕ → Expr → Expr → Bool → Expr
    OperateOne : ℕ → Expr → Expr
    Call : ℕ → Args → Expr
    Native : ℕ → Args → Expr
    Seq : Expr → Expr → Expr

  -- comparisons, each with its right operand, a user's operator that may stand in its place, and
  -- whether that one's operands are exchanged
  pub data Links : Type 0 where
    no_links : Links
    then_link : Comparison → Expr → Option ℕ → Bool → Links → Links

  -- an argument of a call
  pub data Arg : Type 0 where
    Value : Expr → Arg
    Ref : Scalar → Arg
    Whole : Array → Arg
    -- a cell of its own until the call is over
    Temp : Expr → Arg

  -- the arguments of a call, the first one first
  pub data Args : Type 0 where
    no_args : Args
    then_arg : Arg → Args → Args

-- an expression that may be absent
pub data Perhaps : Type 0 where
  Absent : Perhaps
  Present : Expr → Perhaps

mutual
  -- a statement
  pub data Stmt : Type 0 where
    Block : Stmts → Stmt
    -- makes a slot of one cell, with a value
    Local : ℕ → Expr → Stmt
    -- makes a slot that is an array, with the cells of an object
    LocalArray : ℕ → ℕ → Stmt
    Do : Expr → Stmt
    If : Expr → Stmt → Else → Stmt
    While : Expr → Stmt → Stmt
    DoWhile : Stmt → Expr → Stmt
    -- what is done first, the condition, the step, the body
    For : Stmts → Perhaps → Perhaps → Stmt → Stmt
    Switch : Expr → Cases → Else → Stmt
    Return : Expr → Stmt
    Break : Stmt
    Continue : Stmt
    -- a value and a tag's number
    Exit : Expr → ℕ → Stmt
    Sleep : Expr → ℕ → Stmt
    Assert : Expr → Stmt
    -- an automaton, a state of it, and a condition
    State : ℕ → ℕ → Perhaps → Stmt
    Empty : Stmt

  -- a statement that may be absent: behind `else`, behind `default`
  pub data Else : Type 0 where
    no_else : Else
    otherwise : Stmt → Else

  -- ranges from a least to a greatest value, and what is done in them
  pub data Cases : Type 0 where
    no_cases : Cases
    then_case : List (ℤ × ℤ) → Stmt → Cases → Cases

  -- a list of statements
  pub data Stmts : Type 0 where
    no_stmts : Stmts
    then_stmt : Stmt → Stmts → Stmts

-- a variable of a body, or a parameter
pub data Slot : Type 0 where
  ScalarSlot : Slot
  -- a reference to a cell
  ReferenceSlot : Slot
  -- an array of these sizes: one of its own, or as a parameter a reference to one
  ArraySlot : List ℕ → Slot
  -- a reference to an array of any first size, with the sizes after it
  OpenSlot : List ℕ → Slot

-- a global, a static or a literal: its sizes, the outermost first, and its first cells without
-- offsets. A single cell has the size 1
pub record StaticObject : Type 0 where
  pub sizes : List ℕ
  pub constant : Bool
  pub first : List ℤ

-- a body: its slots, the parameters first, and its statement
pub record Body : Type 0 where
  pub slots : List Slot
  pub stmt : Stmt

-- which body serves a state, by pairs of a state and a body
pub record Route : Type 0 where
  pub automaton : ℕ
  pub cases : List (ℕ × ℕ)
  pub fallback : Option ℕ

-- a function
pub record Function : Type 0 where
  pub params : List Slot
  pub tag : ℕ
  pub dispatch : Option Route
  pub bodies : List Body

-- an automaton: its name, its states, and its entry function
pub record Automaton : Type 0 where
  pub name : List ℕ
  pub states : List (List ℕ)
  pub enter : Option ℕ

-- a tag
pub record Tag : Type 0 where
  pub number : ℕ
  pub name : List ℕ

-- a public function
pub record Public : Type 0 where
  pub name : List ℕ
  pub function : ℕ

-- a typed program
pub record Program : Type 0 where
  pub objects : List StaticObject
  pub functions : List Function
  pub natives : List (List ℕ)
  pub automata : List Automaton
  pub tags : List Tag
  pub publics : List Public
  pub entry : Option ℕ
  pub dynamic : ℤ

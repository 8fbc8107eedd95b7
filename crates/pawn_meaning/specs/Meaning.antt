-- What each node of a typed program means (Language Guide, "Statements", "Functions", "Operators
-- and expressions"). `fewer` is the meaning of a statement with one turn less: the body of a call,
-- and what follows a pass of a loop, go to it. Nearly all that valid programs never do ends as a
-- stray access.
use Rattle.std.specs.Prelude.{ℕ, ◌*◌, ℤ, pos, List, [], ◌∷◌, Bool, true, false, ◌&&◌, ◌||◌, Option}
use Rattle.std.specs.Prelude.{None, Some, slice_get, length, unwrap_or, if◌then◌else◌}
use Rattle.pawn_cells.specs.declared.operator.Comparison.{Comparison}
use Rattle.pawn_cells.specs.declared.operator.Logical.TheVariants as logic
use Rattle.pawn_cells.specs.Cells.{cell_of, add, less_eq, truth}
use Rattle.pawn_cells.specs.Operators.{is_true, prefix, binary, compare, logical}
use Rattle.host_script.specs.declared.script.Script.{Script}
use Rattle.host_script.specs.declared.event.End.TheVariants as end
use Rattle.host_script.specs.declared.event.Event.TheVariants as event
use Rattle.pawn_meaning.specs.Program.{Scalar, Global, Own, Element, Char, Array, Object, SlotArray}
use Rattle.pawn_meaning.specs.Program.{ParamArray, Row, From, Expr, Const, Read, Unary, Binary}
use Rattle.pawn_meaning.specs.Program.{Chain, And, Or, Cond, Assign, Update, UpdateBy, Step, StepBy}
use Rattle.pawn_meaning.specs.Program.{Copy, Operate, OperateOne, Call, Native, Seq, Links}
use Rattle.pawn_meaning.specs.Program.{no_links, then_link, Arg, Ref, Whole, Temp, Args, no_args}
use Rattle.pawn_meaning.specs.Program.{then_arg, Perhaps, Absent, Present, Stmt, Block, Local}
use Rattle.pawn_meaning.specs.Program.{LocalArray, Do, If, While, DoWhile, For, Switch, Return}
use Rattle.pawn_meaning.specs.Program.{Break, Continue, Exit, Sleep, Assert, State, Empty, Else}
use Rattle.pawn_meaning.specs.Program.{no_else, otherwise, Cases, no_cases, then_case, Stmts}
use Rattle.pawn_meaning.specs.Program.{no_stmts, then_stmt, Program}
use Rattle.pawn_meaning.specs.Program as node
use Rattle.pawn_meaning.specs.Memory as memory
use Rattle.pawn_meaning.specs.Memory.{Static, Reference, Place, one_cell, running, whole_of}
use Rattle.pawn_meaning.specs.Memory.{own_whole, through, read, write, copied, made, with_temporary}
use Rattle.pawn_meaning.specs.Memory.{switched, object_at}
use Rattle.pawn_meaning.specs.Run.{Run, ◌>>=◌, Done, done, give, stop, or_stop, choose, at_zero}
use Rattle.pawn_meaning.specs.Run.{turn, look, change, say, with_heap}
use Rattle.pawn_meaning.specs.Natives.{Held, Value, Refers, call_native}
use Rattle.pawn_meaning.specs.References.{is_known, index, first_size, row_at, rest_from, cell_at}
use Rattle.pawn_meaning.specs.References.{character_at, to_cell, refers}
use Rattle.pawn_meaning.specs.Calls.{Way, Through, Broke, Continued, Returned, pass, again}
use Rattle.pawn_meaning.specs.Calls.{enter_function, enter_of, entry_for}

-- the program that runs, its script, and the bound on turns
pub record Scene : Type 0 where
  pub program : Program
  pub script : Script
  pub limit : ℕ

-- the meaning of statements with one turn less
abbrev pub Fewer : Type 0
Fewer = Stmt → Run Way

-- a native's name
abbrev pub name_of : Program → ℕ → List ℕ
name_of program n = unwrap_or (slice_get program.natives n) []

-- a range of a case holds a value
abbrev pub in_ranges : List (ℤ × ℤ) → ℤ → Bool
in_ranges [] v = false
in_ranges (range ∷ ranges) v = (less_eq range.0 v && less_eq v range.1) || in_ranges ranges v

-- a chain of several links gives 1 or 0
abbrev pub ended : Links → ℤ → ℤ
ended no_links v = v
ended (then_link op e f swapped links) v = truth (is_true v)

module _ (scene : Scene) (fewer : Fewer) where
  -- ---- calls

  -- a call of the function with this number, with what was evaluated: its turn begins here
  abbrev pub call : ℕ → List Held → Run ℤ
  call f held = do
    function ← look (λ m. slice_get scene.program.functions f)
    _ ← turn scene.limit
    enter_function fewer f function held

  -- a user's operator on one operand
  abbrev pub call_one : ℕ → ℤ → Run ℤ
  call_one f v = call f (Value v ∷ [])

  -- and on two, which may be handed over exchanged
  abbrev pub call_two : ℕ → Bool → ℤ → ℤ → Run ℤ
  call_two f true x y = call f (Value y ∷ Value x ∷ [])
  call_two f false x y = call f (Value x ∷ Value y ∷ [])

  -- converted by a user's operator, where there is one
  abbrev pub converted : Option ℕ → ℤ → Run ℤ
  converted None v = give v
  converted (Some f) v = call_one f v

  -- a link of a chain, on its operands
  abbrev pub linked : Comparison → Option ℕ → Bool → ℤ → ℤ → Run ℤ
  linked op None swapped x y = give (truth (compare op x y))
  linked op (Some f) swapped x y = call_two f swapped x y

  -- ---- expressions

  -- places, arrays, expressions, chains and arguments
  abbrev mutual
    -- the place that a scalar is
    pub place : Scalar → Run Place
    place (Global o) = give (memory.Cell (Static o) 0)
    place (Own s) = look (λ m. Some (memory.Cell (memory.Local (running m) s) 0))
    place (node.Through s) = do
      r ← look (through s)
      give (cell_at r 0)
    place (Element a e) = do
      r ← array a
      v ← value e
      i ← index (is_known a) (first_size r.sizes) v
      give (cell_at r i)
    place (Char a e) = do
      r ← array a
      v ← value e
      i ← index (is_known a) (4 * first_size r.sizes) v
      give (character_at r i)

    -- the part that an array is
    pub array : Array → Run Reference
    array (Object o) = look (whole_of (Static o))
    array (SlotArray s) = look (own_whole s)
    array (ParamArray s known) = look (through s)
    array (Row a e) = do
      r ← array a
      v ← value e
      i ← index (is_known a) (first_size r.sizes) v
      give (row_at r i)
    array (From a e) = do
      r ← array a
      v ← value e
      i ← index (is_known a) (first_size r.sizes) v
      give (rest_from r i)

    -- the value of an expression
    pub value : Expr → Run ℤ
    value (Const v) = give v
    value (Read p) = do
      at ← place p
      look (read at)
    value (Unary op e) = do
      v ← value e
      give (prefix op v)
    value (Binary op l r) = do
      x ← value l
      y ← value r
      or_stop (binary op x y) (end.Error (pos 11))
    value (Chain e links) = do
      x ← value e
      chain links x
    value (And l r) = do
      x ← value l
      at_zero x (give (pos 0)) (do
        y ← value r
        give (logical logic.And x y))
    value (Or l r) = do
      x ← value l
      at_zero x (do
        y ← value r
        give (logical logic.Or x y)) (give (pos 1))
    value (Cond c a b) = do
      x ← value c
      at_zero x (value b) (value a)
    value (Assign p e) = do
      at ← place p
      v ← value e
      _ ← change (write at v)
      give v
    value (Update p op e) = do
      at ← place p
      y ← value e
      x ← look (read at)
      v ← or_stop (binary op x y) (end.Error (pos 11))
      _ ← change (write at v)
      give v
    value (UpdateBy p f swapped e convert) = do
      at ← place p
      y ← value e
      x ← look (read at)
      u ← call_two f swapped x y
      v ← converted convert u
      _ ← change (write at v)
      give v
    value (Step p delta prefix) = do
      at ← place p
      x ← look (read at)
      _ ← change (write at (add x delta))
      give (if prefix then add x delta else x)
    value (StepBy p f prefix) = do
      at ← place p
      x ← look (read at)
      v ← call_one f x
      _ ← change (write at v)
      give (if prefix then v else x)
    value (Copy to from cells) = do
      r ← array to
      q ← array from
      _ ← change (copied r q cells)
      give (pos 0)
    value (Operate f l r swapped) = do
      x ← value l
      y ← value r
      call_two f swapped x y
    value (OperateOne f e) = do
      v ← value e
      call_one f v
    value (Call f args) = with_heap (do
      held ← arguments args
      call f held)
    value (Native n args) = with_heap (do
      held ← arguments args
      call_native scene.script (name_of scene.program n) held)
    value (Seq a b) = do
      _ ← value a
      value b

    -- a chain behind its first operand: one link gives what it gave; of several each must hold, and
    -- they give 1 or 0
    pub chain : Links → ℤ → Run ℤ
    chain no_links x = give x
    chain (then_link op e f swapped links) x = do
      y ← value e
      v ← linked op f swapped x y
      u ← chained links y v
      give (ended links u)

    -- behind a link, with its right operand and what it gave: an operand behind a link that doesn't
    -- hold isn't evaluated
    pub chained : Links → ℤ → ℤ → Run ℤ
    chained no_links x v = give v
    chained (then_link op e f swapped links) x v = at_zero v (give (pos 0)) (do
      y ← value e
      u ← linked op f swapped x y
      chained links y u)

    -- what is handed over for an argument
    pub argument : Arg → Run Held
    argument (node.Value e) = do
      v ← value e
      give (Value v)
    argument (Ref p) = do
      at ← place p
      refers at
    argument (Whole a) = do
      r ← array a
      give (Refers r)
    argument (Temp e) = do
      v ← value e
      count ← look (λ m. Some (length m.heap))
      _ ← change (λ m. Some (with_temporary v m))
      give (Refers (to_cell (memory.Temporary count) 0))

    -- from the last to the first
    pub arguments : Args → Run (List Held)
    arguments no_args = give []
    arguments (then_arg a args) = do
      others ← arguments args
      first ← argument a
      give (first ∷ others)

  -- a condition that may be absent, and then holds
  abbrev pub condition : Perhaps → Run ℤ
  condition Absent = give (pos 1)
  condition (Present e) = value e

  -- an expression that may be absent, and whose value isn't used
  abbrev pub perhaps : Perhaps → Run Done
  perhaps Absent = give done
  perhaps (Present e) = do
    _ ← value e
    give done

  -- the entry function that a switch of state calls
  abbrev pub call_entry : Option ℕ → Run Way
  call_entry None = give Through
  call_entry (Some f) = do
    _ ← call f []
    give Through

  -- ---- statements

  -- a statement, and how it is left
  abbrev mutual
    -- what a statement does, and the way on behind it
    pub run : Stmt → Run Way
    run (Block stmts) = run_all stmts
    run (Local s e) = do
      v ← value e
      _ ← change (made s (one_cell v))
      give Through
    run (LocalArray s o) = do
      object ← look (λ m. object_at m (Static o))
      _ ← change (made s object)
      give Through
    run (Do e) = do
      _ ← value e
      give Through
    run (If c a b) = do
      v ← value c
      at_zero v (run_else b) (run a)
    run (While c s) = do
      v ← value c
      at_zero v (give Through) (do
        _ ← turn scene.limit
        way ← run s
        again way (fewer (While c s)))
    run (DoWhile s c) = do
      _ ← turn scene.limit
      way ← run s
      again way (do
        v ← value c
        at_zero v (give Through) (fewer (DoWhile s c)))
    run (For first c step s) = do
      way ← run_all first
      pass way (do
        v ← condition c
        at_zero v (give Through) (do
          _ ← turn scene.limit
          behind ← run s
          again behind (do
            _ ← perhaps step
            fewer (For no_stmts c step s))))
    run (Switch e cases d) = do
      v ← value e
      run_case cases (run_else d) v
    run (Return e) = do
      v ← value e
      give (Returned v)
    run Break = give Broke
    run Continue = give Continued
    run (Exit e tag) = do
      v ← value e
      stop (end.Exit v (cell_of tag))
    run (Sleep e tag) = do
      v ← value e
      _ ← say (event.Slept v (cell_of tag))
      give Through
    run (Assert e) = do
      v ← value e
      at_zero v (stop (end.Error (pos 2))) (give Through)
    run (State automaton state c) = do
      v ← condition c
      at_zero v (give Through) (do
        _ ← change (switched automaton state)
        call_entry (entry_for scene.program automaton state
            (enter_of (slice_get scene.program.automata automaton))))
    run Empty = give Through

    -- a statement that may be absent
    pub run_else : Else → Run Way
    run_else no_else = give Through
    run_else (otherwise s) = run s

    -- the first case that holds the value, or what stands in the place of cases
    pub run_case : Cases → Run Way → ℤ → Run Way
    run_case no_cases other v = other
    run_case (then_case ranges s cases) other v =
        choose (in_ranges ranges v) (run s) (run_case cases other v)

    -- one after another, while each is left through its end
    pub run_all : Stmts → Run Way
    run_all no_stmts = give Through
    run_all (then_stmt s stmts) = do
      way ← run s
      pass way (run_all stmts)

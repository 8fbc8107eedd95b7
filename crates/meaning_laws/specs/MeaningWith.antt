-- What each node of a typed program means, word for word as in `pawn_meaning`, with an end of
-- their own for the steps that ask for what isn't there. Left as stray accesses are an index
-- outside an array whose size isn't known, a native that can't see an argument by its form, and a
-- first function with parameters.
use Rattle.std.specs.Prelude.{ℕ, zero, suc, ◌*◌, ℤ, pos, List, [], ◌∷◌, Bool, true, false, Option}
use Rattle.std.specs.Prelude.{None, Some, slice_get, length, if◌then◌else◌}
use Rattle.pawn_cells.specs.declared.operator.Comparison.{Comparison}
use Rattle.pawn_cells.specs.declared.operator.Logical.TheVariants as logic
use Rattle.pawn_cells.specs.Cells.{cell_of, add, truth}
use Rattle.pawn_cells.specs.Operators.{prefix, binary, compare, logical}
use Rattle.host_script.specs.declared.script.Script.{Script}
use Rattle.host_script.specs.declared.event.End.TheVariants as end
use Rattle.host_script.specs.declared.event.Event.TheVariants as event
use Rattle.host_script.specs.NativeCall.{Trap}
use Rattle.pawn_meaning.specs.Program.{Scalar, Global, Own, Element, Char, Array, Object, SlotArray}
use Rattle.pawn_meaning.specs.Program.{ParamArray, Row, From, Expr, Const, Read, Unary, Binary}
use Rattle.pawn_meaning.specs.Program.{Chain, And, Or, Cond, Assign, Update, UpdateBy, Step, StepBy}
use Rattle.pawn_meaning.specs.Program.{Copy, Operate, OperateOne, Call, Native, Seq, Links}
use Rattle.pawn_meaning.specs.Program.{no_links, then_link, Arg, Ref, Whole, Temp, Args, no_args}
use Rattle.pawn_meaning.specs.Program.{then_arg, Perhaps, Absent, Present, Stmt, Block, Local}
use Rattle.pawn_meaning.specs.Program.{LocalArray, Do, If, While, DoWhile, For, Switch, Return}
use Rattle.pawn_meaning.specs.Program.{Break, Continue, Exit, Sleep, Assert, State, Empty, Else}
use Rattle.pawn_meaning.specs.Program.{no_else, otherwise, Cases, no_cases, then_case, Stmts}
use Rattle.pawn_meaning.specs.Program.{no_stmts, then_stmt, Slot, Function, Program}
use Rattle.pawn_meaning.specs.Program as node
use Rattle.pawn_meaning.specs.Memory as memory
use Rattle.pawn_meaning.specs.Memory.{Static, Reference, Place, one_cell, running, whole_of}
use Rattle.pawn_meaning.specs.Memory.{own_whole, through, read, write, copied, made, with_temporary}
use Rattle.pawn_meaning.specs.Memory.{switched, object_at}
use Rattle.pawn_meaning.specs.World.{first_world}
use Rattle.pawn_meaning.specs.Run.{Outcome, More, Run, ◌>>=◌, Done, done, give, stop, or_stop}
use Rattle.pawn_meaning.specs.Run.{choose, at_zero, turn, say, with_heap}
use Rattle.pawn_meaning.specs.Natives.{Held, Value, Refers, end_of}
use Rattle.pawn_meaning.specs.References.{is_known, index, first_size, row_at, rest_from, cell_at}
use Rattle.pawn_meaning.specs.References.{character_at, to_cell}
use Rattle.pawn_meaning.specs.Calls.{Way, Through, Broke, Continued, Returned, pass, again}
use Rattle.pawn_meaning.specs.Calls.{enter_function, enter_of, entry_for}
use Rattle.pawn_meaning.specs.Meaning.{Scene, Fewer, name_of, in_ranges, ended}
use Rattle.pawn_meaning.specs.Told.{Told, told_of, scene_of}
use Rattle.meaning_laws.specs.Missing.{look_or, change_or, refers_or, call_native_or}

module _ (missing : Trap) (scene : Scene) (fewer : Fewer) where
  -- ---- calls

  -- a call of the function with this number, with what was evaluated: its turn begins here
  abbrev pub call : ℕ → List Held → Run ℤ
  call f held = do
    function ← look_or missing (λ m. slice_get scene.program.functions f)
    _ ← turn scene.limit
    enter_function fewer f function held

  -- a user's operator on one operand
  abbrev pub call_one : ℕ → ℤ → Run ℤ
  call_one f v = call f (Value v ∷ [])

  -- and on two, which may be handed over exchanged
  abbrev pub call_two : ℕ → Bool → ℤ → ℤ → Run ℤ
  call_two f true x y = call f (Value y ∷ Value x ∷ [])
  call_two f false x y = call f (Value x ∷ Value y ∷ [])

  -- converted by a user's operator, where there is one
  abbrev pub converted : Option ℕ → ℤ → Run ℤ
  converted None v = give v
  converted (Some f) v = call_one f v

  -- a link of a chain, on its operands
  abbrev pub linked : Comparison → Option ℕ → Bool → ℤ → ℤ → Run ℤ
  linked op None swapped x y = give (truth (compare op x y))
  linked op (Some f) swapped x y = call_two f swapped x y

  -- ---- expressions

  -- places, arrays, expressions, chains and arguments
  abbrev mutual
    -- the place that a scalar is
    pub place : Scalar → Run Place
    place (Global o) = give (memory.Cell (Static o) 0)
    place (Own s) = look_or missing (λ m. Some (memory.Cell (memory.Local (running m) s) 0))
    place (node.Through s) = do
      r ← look_or missing (through s)
      give (cell_at r 0)
    place (Element a e) = do
      r ← array a
      v ← value e
      i ← index (is_known a) (first_size r.sizes) v
      give (cell_at r i)
    place (Char a e) = do
      r ← array a
      v ← value e
      i ← index (is_known a) (4 * first_size r.sizes) v
      give (character_at r i)

    -- the part that an array is
    pub array : Array → Run Reference
    array (Object o) = look_or missing (whole_of (Static o))
    array (SlotArray s) = look_or missing (own_whole s)
    array (ParamArray s known) = look_or missing (through s)
    array (Row a e) = do
      r ← array a
      v ← value e
      i ← index (is_known a) (first_size r.sizes) v
      give (row_at r i)
    array (From a e) = do
      r ← array a
      v ← value e
      i ← index (is_known a) (first_size r.sizes) v
      give (rest_from r i)

    -- the value of an expression
    pub value : Expr → Run ℤ
    value (Const v) = give v
    value (Read p) = do
      at ← place p
      look_or missing (read at)
    value (Unary op e) = do
      v ← value e
      give (prefix op v)
    value (Binary op l r) = do
      x ← value l
      y ← value r
      or_stop (binary op x y) (end.Error (pos 11))
    value (Chain e links) = do
      x ← value e
      chain links x
    value (And l r) = do
      x ← value l
      at_zero x (give (pos 0)) (do
        y ← value r
        give (logical logic.And x y))
    value (Or l r) = do
      x ← value l
      at_zero x (do
        y ← value r
        give (logical logic.Or x y)) (give (pos 1))
    value (Cond c a b) = do
      x ← value c
      at_zero x (value b) (value a)
    value (Assign p e) = do
      at ← place p
      v ← value e
      _ ← change_or missing (write at v)
      give v
    value (Update p op e) = do
      at ← place p
      y ← value e
      x ← look_or missing (read at)
      v ← or_stop (binary op x y) (end.Error (pos 11))
      _ ← change_or missing (write at v)
      give v
    value (UpdateBy p f swapped e convert) = do
      at ← place p
      y ← value e
      x ← look_or missing (read at)
      u ← call_two f swapped x y
      v ← converted convert u
      _ ← change_or missing (write at v)
      give v
    value (Step p delta prefix) = do
      at ← place p
      x ← look_or missing (read at)
      _ ← change_or missing (write at (add x delta))
      give (if prefix then add x delta else x)
    value (StepBy p f prefix) = do
      at ← place p
      x ← look_or missing (read at)
      v ← call_one f x
      _ ← change_or missing (write at v)
      give (if prefix then v else x)
    value (Copy to from cells) = do
      r ← array to
      q ← array from
      _ ← change_or missing (copied r q cells)
      give (pos 0)
    value (Operate f l r swapped) = do
      x ← value l
      y ← value r
      call_two f swapped x y
    value (OperateOne f e) = do
      v ← value e
      call_one f v
    value (Call f args) = with_heap (do
      held ← arguments args
      call f held)
    value (Native n args) = with_heap (do
      held ← arguments args
      call_native_or missing scene.script (name_of scene.program n) held)
    value (Seq a b) = do
      _ ← value a
      value b

    -- a chain behind its first operand: one link gives what it gave; of several each must hold, and
    -- they give 1 or 0
    pub chain : Links → ℤ → Run ℤ
    chain no_links x = give x
    chain (then_link op e f swapped links) x = do
      y ← value e
      v ← linked op f swapped x y
      u ← chained links y v
      give (ended links u)

    -- behind a link, with its right operand and what it gave: an operand behind a link that doesn't
    -- hold isn't evaluated
    pub chained : Links → ℤ → ℤ → Run ℤ
    chained no_links x v = give v
    chained (then_link op e f swapped links) x v = at_zero v (give (pos 0)) (do
      y ← value e
      u ← linked op f swapped x y
      chained links y u)

    -- what is handed over for an argument
    pub argument : Arg → Run Held
    argument (node.Value e) = do
      v ← value e
      give (Value v)
    argument (Ref p) = do
      at ← place p
      refers_or missing at
    argument (Whole a) = do
      r ← array a
      give (Refers r)
    argument (Temp e) = do
      v ← value e
      count ← look_or missing (λ m. Some (length m.heap))
      _ ← change_or missing (λ m. Some (with_temporary v m))
      give (Refers (to_cell (memory.Temporary count) 0))

    -- from the last to the first
    pub arguments : Args → Run (List Held)
    arguments no_args = give []
    arguments (then_arg a args) = do
      others ← arguments args
      first ← argument a
      give (first ∷ others)

  -- a condition that may be absent, and then holds
  abbrev pub condition : Perhaps → Run ℤ
  condition Absent = give (pos 1)
  condition (Present e) = value e

  -- an expression that may be absent, and whose value isn't used
  abbrev pub perhaps : Perhaps → Run Done
  perhaps Absent = give done
  perhaps (Present e) = do
    _ ← value e
    give done

  -- the entry function that a switch of state calls
  abbrev pub call_entry : Option ℕ → Run Way
  call_entry None = give Through
  call_entry (Some f) = do
    _ ← call f []
    give Through

  -- ---- statements

  -- a statement, and how it is left
  abbrev mutual
    -- what a statement does, and the way on behind it
    pub run : Stmt → Run Way
    run (Block stmts) = run_all stmts
    run (Local s e) = do
      v ← value e
      _ ← change_or missing (made s (one_cell v))
      give Through
    run (LocalArray s o) = do
      object ← look_or missing (λ m. object_at m (Static o))
      _ ← change_or missing (made s object)
      give Through
    run (Do e) = do
      _ ← value e
      give Through
    run (If c a b) = do
      v ← value c
      at_zero v (run_else b) (run a)
    run (While c s) = do
      v ← value c
      at_zero v (give Through) (do
        _ ← turn scene.limit
        way ← run s
        again way (fewer (While c s)))
    run (DoWhile s c) = do
      _ ← turn scene.limit
      way ← run s
      again way (do
        v ← value c
        at_zero v (give Through) (fewer (DoWhile s c)))
    run (For first c step s) = do
      way ← run_all first
      pass way (do
        v ← condition c
        at_zero v (give Through) (do
          _ ← turn scene.limit
          behind ← run s
          again behind (do
            _ ← perhaps step
            fewer (For no_stmts c step s))))
    run (Switch e cases d) = do
      v ← value e
      run_case cases (run_else d) v
    run (Return e) = do
      v ← value e
      give (Returned v)
    run Break = give Broke
    run Continue = give Continued
    run (Exit e tag) = do
      v ← value e
      stop (end.Exit v (cell_of tag))
    run (Sleep e tag) = do
      v ← value e
      _ ← say (event.Slept v (cell_of tag))
      give Through
    run (Assert e) = do
      v ← value e
      at_zero v (stop (end.Error (pos 2))) (give Through)
    run (State automaton state c) = do
      v ← condition c
      at_zero v (give Through) (do
        _ ← change_or missing (switched automaton state)
        call_entry (entry_for scene.program automaton state
            (enter_of (slice_get scene.program.automata automaton))))
    run Empty = give Through

    -- a statement that may be absent
    pub run_else : Else → Run Way
    run_else no_else = give Through
    run_else (otherwise s) = run s

    -- the first case that holds the value, or what stands in the place of cases
    pub run_case : Cases → Run Way → ℤ → Run Way
    run_case no_cases other v = other
    run_case (then_case ranges s cases) other v =
        choose (in_ranges ranges v) (run s) (run_case cases other v)

    -- one after another, while each is left through its end
    pub run_all : Stmts → Run Way
    run_all no_stmts = give Through
    run_all (then_stmt s stmts) = do
      way ← run s
      pass way (run_all stmts)

module _ (missing : Trap) (scene : Scene) where
  -- a statement with at most so many turns begun one within another
  abbrev pub nested : ℕ → Stmt → Run Way
  nested zero s = λ w. More w
  nested (suc turns) s = run missing scene (nested turns) s

  -- the run of the entry function
  abbrev pub entry_run : ℕ → Function → Run ⊥
  entry_run f function = do
    v ← enter_function (run missing scene (nested scene.limit)) f function []
    stop (end.Done v)

  -- an entry function with parameters is a stray access at once
  abbrev pub without_params : ℕ → Function → List Slot → Run ⊥
  without_params f function [] = entry_run f function
  without_params f function (param ∷ params) = stop end.Stray

  -- the entry function, which may not be there
  abbrev pub entry_or : ℕ → Option Function → Run ⊥
  entry_or f None = stop (end_of missing)
  entry_or f (Some function) = without_params f function function.params

  -- the run of a program from the function with this number
  abbrev pub whole : ℕ → Outcome ⊥
  whole f = entry_or f (slice_get scene.program.functions f) (first_world scene.program)

-- the meaning of a program from the function with this number, with an end of its own where it asks
-- for what isn't there
abbrev pub meaning_with : Trap → Program → Script → ℕ → ℕ → Told
meaning_with missing program script f limit =
    told_of (whole missing (scene_of program script limit) f)

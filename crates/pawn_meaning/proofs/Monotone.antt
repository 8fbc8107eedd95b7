-- A greater bound on turns only extends a meaning: one lemma a step, one line a node.
use Rattle.std.proofs.Common.{◌≡◌, ◌+◌, ◌≤◌, ◌⊎◌, inl, inr, subst, length, ℕ, ℤ, zero, suc, pos}
use Rattle.std.proofs.Common.{List, [], ◌∷◌, Option, None, Some, Bool, true, false, refl, arith}
use Rattle.std.proofs.Common.{nat_lt, slice_get, if◌then◌else◌, ◌*◌}
use Rattle.std.proofs.lemmas.Bool.{ltb-true, ltb-false}
use Rattle.host_script.specs.declared.script.Script.{Script}
use Rattle.host_script.specs.declared.event.End.{End}
use Rattle.host_script.specs.declared.event.End.TheVariants as end
use Rattle.host_script.specs.declared.event.Event.{Event}
use Rattle.host_script.specs.declared.event.Event.TheVariants as event
use Rattle.host_script.specs.NativeCall.{Called, Ends_there, Answers, native_call}
use Rattle.pawn_cells.specs.declared.operator.Comparison.{Comparison}
use Rattle.pawn_cells.specs.declared.operator.Logical.TheVariants as logic
use Rattle.pawn_cells.specs.Cells.{cell_of, is_zero, add, truth}
use Rattle.pawn_cells.specs.Operators.{prefix, binary, compare, logical}
use Rattle.pawn_meaning.specs.Program.{Scalar, Global, Own, Element, Char, Array, Object, SlotArray}
use Rattle.pawn_meaning.specs.Program.{ParamArray, Row, From, Expr, Const, Read, Unary, Binary}
use Rattle.pawn_meaning.specs.Program.{Chain, And, Or, Cond, Assign, Update, UpdateBy, Step, StepBy}
use Rattle.pawn_meaning.specs.Program.{Copy, Operate, OperateOne, Call, Native, Seq, Links}
use Rattle.pawn_meaning.specs.Program.{no_links, then_link, Arg, Ref, Whole, Temp, Args, no_args}
use Rattle.pawn_meaning.specs.Program.{then_arg, Perhaps, Absent, Present, Stmt, Block, Local}
use Rattle.pawn_meaning.specs.Program.{LocalArray, Do, If, While, DoWhile, For, Switch, Return}
use Rattle.pawn_meaning.specs.Program.{Break, Continue, Exit, Sleep, Assert, State, Empty, Else}
use Rattle.pawn_meaning.specs.Program.{no_else, otherwise, Cases, no_cases, then_case, Stmts}
use Rattle.pawn_meaning.specs.Program.{no_stmts, then_stmt, Slot, Body, Function, Program}
use Rattle.pawn_meaning.specs.Program as node
use Rattle.pawn_meaning.specs.Memory as memory
use Rattle.pawn_meaning.specs.Memory.{Memory, Static, Frame, Place, one_cell, running, whole_of}
use Rattle.pawn_meaning.specs.Memory.{own_whole, through, read, write, copied, made, with_temporary}
use Rattle.pawn_meaning.specs.Memory.{cut_heap, switched, object_at}
use Rattle.pawn_meaning.specs.World.{World, first_world}
use Rattle.pawn_meaning.specs.Run.{Outcome, Gives, Stops, More, Run, Done, done, then_do, ◌>>=◌}
use Rattle.pawn_meaning.specs.Run.{give, stop, or_stop, turn, look, changed, change, say, enter}
use Rattle.pawn_meaning.specs.Run.{leave, with_frame, with_heap, choose, at_zero}
use Rattle.pawn_meaning.specs.Natives.{Held, Value, Refers, Spot, see, with_writes, finished}
use Rattle.pawn_meaning.specs.Natives.{after_call, call_native}
use Rattle.pawn_meaning.specs.References.{is_known, index_in, outside, index, first_size, row_at}
use Rattle.pawn_meaning.specs.References.{rest_from, cell_at, character_at, to_cell, refers}
use Rattle.pawn_meaning.specs.Calls.{Way, Through, Broke, Continued, Returned, pass, again}
use Rattle.pawn_meaning.specs.Calls.{value_of, body_by, frame_of, run_body, enter_function}
use Rattle.pawn_meaning.specs.Calls.{enter_of, entry_for}
use Rattle.pawn_meaning.specs.Meaning.{Scene, Fewer, name_of, in_ranges, ended, call, call_one}
use Rattle.pawn_meaning.specs.Meaning.{call_two, converted, linked, place, array, value, chain}
use Rattle.pawn_meaning.specs.Meaning.{chained, argument, arguments, condition, perhaps, call_entry}
use Rattle.pawn_meaning.specs.Meaning.{run, run_else, run_case, run_all}
use Rattle.pawn_meaning.specs.Told.{nested, entry_run, without_params, entry_or_stray, whole}
use Rattle.pawn_meaning.specs.Later.{Later, world_of, Grows, bump, Below}
use Rattle.pawn_meaning.proofs.Grows.{after_grows, grown_by, world_later, give_grows, stop_grows}
use Rattle.pawn_meaning.proofs.Grows.{or_stop_grows, look_grows, change_grows, say_grows}
use Rattle.pawn_meaning.proofs.Grows.{enter_grows, leave_grows, turn_grows, native_grows}

by_done : (P : Done → Type 0) → P done → (d : Done) → P d
by_done P p done = p

-- t is the lesser bound and m the greater one
module _ (t m : ℕ) (least : t ≤ m) where
  -- k calls or passes may still begin within one another, and that is enough for the turns left
  pub record Left (k : ℕ) (w : World) : Type 0 where
    pub enough : t ≤ w.turns + k
    pub within : w.turns ≤ t

  -- a run with the lesser bound and one with the greater
  pub record Up {A : Type 0} (k : ℕ) (c d : Run A) : Type 0 where
    pub at : (w : World) → Left k w → Below t m least (c w) (d w)
    pub low : Grows c
    pub high : Grows d

  more_after : {A B : Type 0} (x : World) (r : Outcome A) (go : A → Run B)
      → ((a : A) → Grows (go a))
      → (r ≡ More x) ⊎ Later (bump x) (world_of r)
      → (then_do r go ≡ More x) ⊎ Later (bump x) (world_of (then_do r go))
  more_after x r go g (inl e) = inl (rw e refl)
  more_after x r go g (inr l) = inr (grown_by (bump x) r go l g)

  below_after : {A B : Type 0} (k : ℕ) (w : World) (o r : Outcome A) (go go' : A → Run B) → Left k w
      → Later w (world_of o)
      → ((a : A) → Up k (go a) (go' a)) → Below t m least o r
      → Below t m least (then_do o go) (then_do r go')
  below_after k w (Gives a x) r go go' left l up b =
      rw b.1 ((up a).at x (record {
        enough = omega (arith, left.enough, world_later w x l);
        within = b.0;
      }))
  below_after k w (Stops end x) r go go' left l up b = (b.0, rw b.1 refl)
  below_after k w (More x) r go go' left l up b = (b.0, more_after x r go' (λ a. (up a).high) b.1)

  pub after_up : {A B : Type 0} {k : ℕ} {c d : Run A} {go go' : A → Run B} → Up k c d
      → ((a : A) → Up k (go a) (go' a)) → Up k (c >>= go) (d >>= go')
  after_up {k = k} {c = c} {d = d} {go = go} {go' = go'} first rest = record {
    at = λ w left. below_after k w (c w) (d w) go go' left (first.low.at w) rest (first.at w left);
    low = after_grows first.low (λ a. (rest a).low);
    high = after_grows first.high (λ a. (rest a).high);
  }

  -- ---- the steps

  pub give_up : {A : Type 0} {k : ℕ} (a : A) → Up k (give a) (give a)
  give_up a = record { at = λ w left. (left.within, refl); low = give_grows a; high = give_grows a }

  pub stop_up : {A : Type 0} {k : ℕ} (end : End) → Up k (stop {A = A} end) (stop end)
  stop_up end =
      record { at = λ w left. (left.within, refl); low = stop_grows end; high = stop_grows end }

  pub or_stop_up : {A : Type 0} {k : ℕ} (o : Option A) (end : End)
      → Up k (or_stop o end) (or_stop o end)
  or_stop_up None end = stop_up end
  or_stop_up (Some a) end = give_up a

  pub look_up : {A : Type 0} {k : ℕ} (f : Memory → Option A) → Up k (look f) (look f)
  look_up {k = k} f =
      record {
        at = λ w left. (or_stop_up {k = k} (f w.memory) end.Stray).at w left;
        low = look_grows f;
        high = look_grows f;
      }

  changed_below : (o : Option Memory) (w : World) → w.turns ≤ t
      → Below t m least (changed o w) (changed o w)
  changed_below None w h = (h, refl)
  changed_below (Some m) w h = (h, refl)

  pub change_up : {k : ℕ} (f : Memory → Option Memory) → Up k (change f) (change f)
  change_up f =
      record {
        at = λ w left. changed_below (f w.memory) w left.within;
        low = change_grows f;
        high = change_grows f;
      }

  pub say_up : {k : ℕ} (event : Event) → Up k (say event) (say event)
  say_up event =
      record { at = λ w left. (left.within, refl); low = say_grows event; high = say_grows event }

  pub enter_up : {k : ℕ} (frame : Frame) → Up k (enter frame) (enter frame)
  enter_up frame =
      record {
        at = λ w left. (left.within, refl);
        low = enter_grows frame;
        high = enter_grows frame;
      }

  pub leave_up : {k : ℕ} → Up k leave leave
  leave_up = record { at = λ w left. (left.within, refl); low = leave_grows; high = leave_grows }

  pub with_frame_up : {A : Type 0} {k : ℕ} (frame : Frame) {c d : Run A} → Up k c d
      → Up k (with_frame frame c) (with_frame frame d)
  with_frame_up frame run =
      after_up (enter_up frame) (λ _. after_up run (λ a. after_up leave_up (λ _. give_up a)))

  pub with_heap_up : {A : Type 0} {k : ℕ} {c d : Run A} → Up k c d
      → Up k (with_heap c) (with_heap d)
  with_heap_up run =
      after_up (look_up (λ m. Some (length m.heap)))
      (λ n. after_up run (λ a. after_up (change_up (λ m. Some (cut_heap n m)))
      (λ _. give_up a)))

  pub choose_up : {A : Type 0} {k : ℕ} (b : Bool) {c d c' d' : Run A} → Up k c d → Up k c' d'
      → Up k (choose b c c') (choose b d d')
  choose_up true first second = first
  choose_up false first second = second

  answered_below : (event : Event) (result : ℤ) (position : ℕ) (o : Option Memory) (w : World)
      → w.turns ≤ t
      → Below t m least (finished event result position o w) (finished event result position o w)
  answered_below event result position None w h = (h, refl)
  answered_below event result position (Some m) w h = (h, refl)

  called_below : (called : Called Spot) (w : World) → w.turns ≤ t
      → Below t m least (after_call called w) (after_call called w)
  called_below (Ends_there trap position) w h = (h, refl)
  called_below (Answers event result position puts) w h =
      answered_below event result position (with_writes puts (Some w.memory)) w h

  pub native_up : {k : ℕ} (script : Script) (name : List ℕ) (held : List Held)
      → Up k (call_native script name held) (call_native script name held)
  native_up script name held = record {
    at =
        λ w left. called_below (native_call script (see w.memory) name held w.position) w
        left.within;
    low = native_grows script name held;
    high = native_grows script name held;
  }

  -- a turn, and what follows with one less to begin
  turned_low : {A : Type 0} (k : ℕ) (go go' : Done → Run A) (w : World) → Left k w
      → ((j : ℕ) → k ≡ suc j → Up j (go done) (go' done))
      → Grows (go' done) → (b : Bool) → nat_lt w.turns t ≡ b → (b' : Bool) → nat_lt w.turns m ≡ b'
      → Below t m least (then_do (turn t w) go) (then_do (turn m w) go')
  turned_low zero go go' w left up g true e b' e' =
      absurd (omega (arith, left.enough, ltb-true _ _ e))
  turned_low (suc j) go go' w left up g true e true e' =
      rw (e, e') ((up j refl).at (bump w)
      (record { enough = omega (arith, left.enough); within = omega (arith, ltb-true _ _ e) }))
  turned_low (suc j) go go' w left up g true e false e' =
      absurd (omega (arith, ltb-true _ _ e, ltb-false _ _ e'))
  turned_low k go go' w left up g false e true e' =
      rw (e, e') (omega (arith, left.within, ltb-false _ _ e), inr (g.at (bump w)))
  turned_low k go go' w left up g false e false e' =
      rw (e, e') (omega (arith, left.within, ltb-false _ _ e), inl refl)

  less_up : {A : Type 0} (j k : ℕ) (c d : Run A) → j ≤ k → Up k c d → Up j c d
  less_up j k c d h up = record {
    at = λ w left. up.at w (record { enough = omega (arith, left.enough); within = left.within });
    low = up.low;
    high = up.high;
  }

  -- what stands behind a turn, with one less to begin
  pub record Behind {A : Type 0} (k : ℕ) (c d : Run A) : Type 0 where
    pub at : (j : ℕ) → k ≡ suc j → Up j c d
    pub low : Grows c
    pub high : Grows d

  pub behind : {A : Type 0} {k : ℕ} {c d : Run A} → Up k c d → Behind k c d
  behind {k = k} {c = c} {d = d} up =
      record { at = λ j e. less_up j k c d (omega (arith, e)) up; low = up.low; high = up.high }

  pub after_behind : {A B : Type 0} {k : ℕ} {c d : Run A} {go go' : A → Run B} → Behind k c d
      → ((a : A) → Behind k (go a) (go' a)) → Behind k (c >>= go) (d >>= go')
  after_behind first rest = record {
    at = λ j e. after_up (first.at j e) (λ a. (rest a).at j e);
    low = after_grows first.low (λ a. (rest a).low);
    high = after_grows first.high (λ a. (rest a).high);
  }

  pub choose_behind : {A : Type 0} {k : ℕ} (b : Bool) {c d c' d' : Run A} → Behind k c d
      → Behind k c' d' → Behind k (choose b c c') (choose b d d')
  choose_behind true first second = first
  choose_behind false first second = second

  pub turn_up : {A : Type 0} {k : ℕ} (go go' : Done → Run A) → Behind k (go done) (go' done)
      → Up k (turn t >>= go) (turn m >>= go')
  turn_up {k = k} go go' next = record {
    at = λ w left. turned_low k go go' w left next.at next.high _ refl _ refl;
    low = after_grows (turn_grows t) (λ d. by_done (λ x. Grows (go x)) next.low d);
    high = after_grows (turn_grows m) (λ d. by_done (λ x. Grows (go' x)) next.high d);
  }

  body_up : {k : ℕ} (run run' : Stmt → Run Way) → ((s : Stmt) → Up k (run s) (run' s))
      → (body : Option Body) → Up k (run_body run body) (run_body run' body)
  body_up run run' up body =
      after_up (or_stop_up body (end.Error (pos 13)))
      (λ it. after_up (up it.stmt) (λ way. give_up (value_of way)))

  pub entered_up : {k : ℕ} (run run' : Stmt → Run Way) → ((s : Stmt) → Up k (run s) (run' s))
      → (f : ℕ) (function : Function) (held : List Held)
      → Up k (enter_function run f function held) (enter_function run' f function held)
  entered_up run run' up f function held =
      after_up (look_up (λ m. Some (body_by function function.dispatch m)))
      (λ body. with_frame_up (frame_of f function held body) (body_up run run' up body))

  body_grows : (run : Stmt → Run Way) → ((s : Stmt) → Grows (run s)) → (body : Option Body)
      → Grows (run_body run body)
  body_grows run up body =
      after_grows (or_stop_grows body (end.Error (pos 13)))
      (λ it. after_grows (up it.stmt) (λ way. give_grows (value_of way)))

  entered_grows : (run : Stmt → Run Way) → ((s : Stmt) → Grows (run s))
      → (f : ℕ) (function : Function) (held : List Held)
      → Grows (enter_function run f function held)
  entered_grows run up f function held =
      after_grows (look_grows (λ m. Some (body_by function function.dispatch m)))
      (λ body. after_grows (enter_grows (frame_of f function held body)) (λ _.
      after_grows (body_grows run up body) (λ a. after_grows leave_grows (λ _. give_grows a))))

  -- ---- the nodes, one line each

  module _ (program : Program) (script : Script) (k : ℕ) (fewer fewer' : Fewer)
      (up : (s : Stmt) → Behind k (fewer s) (fewer' s)) where
    abbrev low : Scene
    low = record { program = program; script = script; limit = t }

    abbrev high : Scene
    high = record { program = program; script = script; limit = m }

    pub call_up : (f : ℕ) (held : List Held)
        → Up k (call low fewer f held) (call high fewer' f held)
    call_up f held = after_up (look_up (λ m. slice_get program.functions f)) (λ function. turn_up
        (λ _. enter_function fewer f function held) (λ _. enter_function fewer' f function held)
        (record {
          at = λ j e. entered_up fewer fewer' (λ s. (up s).at j e) f function held;
          low = entered_grows fewer (λ s. (up s).low) f function held;
          high = entered_grows fewer' (λ s. (up s).high) f function held;
        }))

    two_up : (f : ℕ) (swapped : Bool) (x y : ℤ)
        → Up k (call_two low fewer f swapped x y) (call_two high fewer' f swapped x y)
    two_up f true x y = call_up f (Value y ∷ Value x ∷ [])
    two_up f false x y = call_up f (Value x ∷ Value y ∷ [])

    one_up : (f : ℕ) (v : ℤ) → Up k (call_one low fewer f v) (call_one high fewer' f v)
    one_up f v = call_up f (Value v ∷ [])

    converted_up : (f : Option ℕ) (v : ℤ)
        → Up k (converted low fewer f v) (converted high fewer' f v)
    converted_up None v = give_up v
    converted_up (Some f) v = one_up f v

    linked_up : (o : Comparison) (f : Option ℕ) (swapped : Bool) (x y : ℤ)
        → Up k (linked low fewer o f swapped x y) (linked high fewer' o f swapped x y)
    linked_up o None swapped x y = give_up (truth (compare o x y))
    linked_up o (Some f) swapped x y = two_up f swapped x y

    index_up : (known : Bool) (n : ℕ) (v : ℤ) → Up k (index known n v) (index known n v)
    index_up known n v = or_stop_up (index_in n v) (outside known)

    refers_up : (at : Place) → Up k (refers at) (refers at)
    refers_up (memory.Cell name i) = give_up (Refers (to_cell name i))
    refers_up (memory.Character name i c) = stop_up end.Stray

    mutual
      pub place_up : (p : Scalar) → Up k (place low fewer p) (place high fewer' p)
      place_up (Global o) = give_up (memory.Cell (Static o) 0)
      place_up (Own s) = look_up (λ m. Some (memory.Cell (memory.Local (running m) s) 0))
      place_up (node.Through s) = after_up (look_up (through s)) (λ r. give_up (cell_at r 0))
      place_up (Element a e) =
          after_up (array_up a) (λ r. after_up (value_up e)
          (λ v. after_up (index_up (is_known a) (first_size r.sizes) v)
          (λ i. give_up (cell_at r i))))
      place_up (Char a e) =
          after_up (array_up a) (λ r. after_up (value_up e)
          (λ v. after_up (index_up (is_known a) (4 * first_size r.sizes) v)
          (λ i. give_up (character_at r i))))

      pub array_up : (a : Array) → Up k (array low fewer a) (array high fewer' a)
      array_up (Object o) = look_up (whole_of (Static o))
      array_up (SlotArray s) = look_up (own_whole s)
      array_up (ParamArray s known) = look_up (through s)
      array_up (Row a e) =
          after_up (array_up a) (λ r. after_up (value_up e)
          (λ v. after_up (index_up (is_known a) (first_size r.sizes) v)
          (λ i. give_up (row_at r i))))
      array_up (From a e) =
          after_up (array_up a) (λ r. after_up (value_up e)
          (λ v. after_up (index_up (is_known a) (first_size r.sizes) v)
          (λ i. give_up (rest_from r i))))

      pub value_up : (e : Expr) → Up k (value low fewer e) (value high fewer' e)
      value_up (Const v) = give_up v
      value_up (Read p) = after_up (place_up p) (λ at. look_up (read at))
      value_up (Unary o e) = after_up (value_up e) (λ v. give_up (prefix o v))
      value_up (Binary o l r) =
          after_up (value_up l) (λ x. after_up (value_up r)
          (λ y. or_stop_up (binary o x y) (end.Error (pos 11))))
      value_up (Chain e links) = after_up (value_up e) (λ x. chain_up links x)
      value_up (And l r) =
          after_up (value_up l) (λ x. choose_up (is_zero x) (give_up (pos 0))
          (after_up (value_up r) (λ y. give_up (logical logic.And x y))))
      value_up (Or l r) =
          after_up (value_up l) (λ x. choose_up (is_zero x)
          (after_up (value_up r) (λ y. give_up (logical logic.Or x y))) (give_up (pos 1)))
      value_up (Cond c a b) =
          after_up (value_up c) (λ x. choose_up (is_zero x) (value_up b) (value_up a))
      value_up (Assign p e) =
          after_up (place_up p) (λ at. after_up (value_up e)
          (λ v. after_up (change_up (write at v)) (λ _. give_up v)))
      value_up (Update p o e) =
          after_up (place_up p) (λ at. after_up (value_up e)
          (λ y. after_up (look_up (read at))
          (λ x. after_up (or_stop_up (binary o x y) (end.Error (pos 11)))
          (λ v. after_up (change_up (write at v)) (λ _. give_up v)))))
      value_up (UpdateBy p f swapped e convert) =
          after_up (place_up p) (λ at. after_up (value_up e)
          (λ y. after_up (look_up (read at))
          (λ x. after_up (two_up f swapped x y)
          (λ u. after_up (converted_up convert u)
          (λ v. after_up (change_up (write at v)) (λ _. give_up v))))))
      value_up (Step p delta prefix) =
          after_up (place_up p) (λ at. after_up (look_up (read at))
          (λ x. after_up (change_up (write at (add x delta)))
          (λ _. give_up (if prefix then add x delta else x))))
      value_up (StepBy p f prefix) =
          after_up (place_up p) (λ at. after_up (look_up (read at))
          (λ x. after_up (one_up f x) (λ v. after_up (change_up (write at v))
          (λ _. give_up (if prefix then v else x)))))
      value_up (Copy to from cells) =
          after_up (array_up to) (λ r. after_up (array_up from)
          (λ q. after_up (change_up (copied r q cells)) (λ _. give_up (pos 0))))
      value_up (Operate f l r swapped) =
          after_up (value_up l) (λ x. after_up (value_up r) (λ y. two_up f swapped x y))
      value_up (OperateOne f e) = after_up (value_up e) (λ v. one_up f v)
      value_up (Call f args) = with_heap_up (after_up (arguments_up args) (λ held. call_up f held))
      value_up (Native n args) =
          with_heap_up (after_up (arguments_up args)
          (λ held. native_up script (name_of program n) held))
      value_up (Seq a b) = after_up (value_up a) (λ _. value_up b)

      chain_up : (links : Links) (x : ℤ)
          → Up k (chain low fewer links x) (chain high fewer' links x)
      chain_up no_links x = give_up x
      chain_up (then_link o e f swapped links) x =
          after_up (value_up e) (λ y. after_up (linked_up o f swapped x y)
          (λ v. after_up (chained_up links y v) (λ u. give_up (ended links u))))

      chained_up : (links : Links) (x v : ℤ)
          → Up k (chained low fewer links x v) (chained high fewer' links x v)
      chained_up no_links x v = give_up v
      chained_up (then_link o e f swapped links) x v =
          choose_up (is_zero v) (give_up (pos 0))
          (after_up (value_up e) (λ y. after_up (linked_up o f swapped x y)
          (λ u. chained_up links y u)))

      pub argument_up : (a : Arg) → Up k (argument low fewer a) (argument high fewer' a)
      argument_up (node.Value e) = after_up (value_up e) (λ v. give_up (Value v))
      argument_up (Ref p) = after_up (place_up p) (λ at. refers_up at)
      argument_up (Whole a) = after_up (array_up a) (λ r. give_up (Refers r))
      argument_up (Temp e) =
          after_up (value_up e) (λ v. after_up (look_up (λ m. Some (length m.heap)))
          (λ n. after_up (change_up (λ m. Some (with_temporary v m)))
          (λ _. give_up (Refers (to_cell (memory.Temporary n) 0)))))

      pub arguments_up : (args : Args)
          → Up k (arguments low fewer args) (arguments high fewer' args)
      arguments_up no_args = give_up []
      arguments_up (then_arg a args) =
          after_up (arguments_up args) (λ others. after_up (argument_up a)
          (λ first. give_up (first ∷ others)))

    condition_up : (c : Perhaps) → Up k (condition low fewer c) (condition high fewer' c)
    condition_up Absent = give_up (pos 1)
    condition_up (Present e) = value_up e

    perhaps_up : (c : Perhaps) → Up k (perhaps low fewer c) (perhaps high fewer' c)
    perhaps_up Absent = give_up done
    perhaps_up (Present e) = after_up (value_up e) (λ _. give_up done)

    entry_up : (f : Option ℕ) → Up k (call_entry low fewer f) (call_entry high fewer' f)
    entry_up None = give_up Through
    entry_up (Some f) = after_up (call_up f []) (λ _. give_up Through)

    pass_up : (way : Way) {c d : Run Way} → Up k c d → Up k (pass way c) (pass way d)
    pass_up Through up = up
    pass_up Broke up = give_up Broke
    pass_up Continued up = give_up Continued
    pass_up (Returned v) up = give_up (Returned v)

    again_up : (way : Way) {c d : Run Way} → Behind k c d → Behind k (again way c) (again way d)
    again_up Through up = up
    again_up Broke up = behind (give_up Through)
    again_up Continued up = up
    again_up (Returned v) up = behind (give_up (Returned v))

    mutual
      pub run_up : (s : Stmt) → Up k (run low fewer s) (run high fewer' s)
      run_up (Block stmts) = run_all_up stmts
      run_up (Local s e) =
          after_up (value_up e) (λ v. after_up (change_up (made s (one_cell v)))
          (λ _. give_up Through))
      run_up (LocalArray s o) =
          after_up (look_up (λ m. object_at m (Static o)))
          (λ object. after_up (change_up (made s object)) (λ _. give_up Through))
      run_up (Do e) = after_up (value_up e) (λ _. give_up Through)
      run_up (If c a b) =
          after_up (value_up c) (λ v. choose_up (is_zero v) (run_else_up b) (run_up a))
      run_up (While c s) =
          after_up (value_up c) (λ v. choose_up (is_zero v) (give_up Through) (turn_up
          (λ _. run low fewer s >>= (λ way. again way (fewer (While c s))))
          (λ _. run high fewer' s >>= (λ way. again way (fewer' (While c s))))
          (after_behind (behind (run_up s)) (λ way. again_up way (up (While c s))))))
      run_up (DoWhile s c) = turn_up
          (λ _. run low fewer s >>= (λ way. again way
          (value low fewer c >>= (λ v. at_zero v (give Through) (fewer (DoWhile s c))))))
          (λ _. run high fewer' s >>= (λ way. again way
          (value high fewer' c >>= (λ v. at_zero v (give Through) (fewer' (DoWhile s c))))))
          (after_behind (behind (run_up s))
          (λ way. again_up way (after_behind (behind (value_up c))
          (λ v. choose_behind (is_zero v) (behind (give_up Through)) (up (DoWhile s c))))))
      run_up (For first c step s) =
          after_up (run_all_up first) (λ way. pass_up way
          (after_up (condition_up c) (λ v. choose_up (is_zero v) (give_up Through) (turn_up
          (λ _. run low fewer s >>= (λ way. again way
          (perhaps low fewer step >>= (λ _. fewer (For no_stmts c step s)))))
          (λ _. run high fewer' s >>= (λ way. again way
          (perhaps high fewer' step >>= (λ _. fewer' (For no_stmts c step s)))))
          (after_behind (behind (run_up s))
          (λ way. again_up way (after_behind (behind (perhaps_up step))
          (λ _. up (For no_stmts c step s)))))))))
      run_up (Switch e cases d) = after_up (value_up e) (λ v. run_case_up cases (run_else_up d) v)
      run_up (Return e) = after_up (value_up e) (λ v. give_up (Returned v))
      run_up Break = give_up Broke
      run_up Continue = give_up Continued
      run_up (Exit e tag) = after_up (value_up e) (λ v. stop_up (end.Exit v (cell_of tag)))
      run_up (Sleep e tag) =
          after_up (value_up e) (λ v. after_up (say_up (event.Slept v (cell_of tag)))
          (λ _. give_up Through))
      run_up (Assert e) =
          after_up (value_up e) (λ v. choose_up (is_zero v) (stop_up (end.Error (pos 2)))
          (give_up Through))
      run_up (State automaton state c) =
          after_up (condition_up c) (λ v. choose_up (is_zero v) (give_up Through)
          (after_up (change_up (switched automaton state))
          (λ _. entry_up (entry_for program automaton state
          (enter_of (slice_get program.automata automaton))))))
      run_up Empty = give_up Through

      run_else_up : (b : Else) → Up k (run_else low fewer b) (run_else high fewer' b)
      run_else_up no_else = give_up Through
      run_else_up (otherwise s) = run_up s

      run_case_up : (cases : Cases) {d d' : Run Way} → Up k d d' → (v : ℤ)
          → Up k (run_case low fewer cases d v) (run_case high fewer' cases d' v)
      run_case_up no_cases up v = up
      run_case_up (then_case ranges s cases) up v =
          choose_up (in_ranges ranges v) (run_up s) (run_case_up cases up v)

      pub run_all_up : (stmts : Stmts) → Up k (run_all low fewer stmts) (run_all high fewer' stmts)
      run_all_up no_stmts = give_up Through
      run_all_up (then_stmt s stmts) = after_up (run_up s) (λ way. pass_up way (run_all_up stmts))

  -- ---- the whole

  module _ (program : Program) (script : Script) where
    abbrev lesser : Scene
    lesser = record { program = program; script = script; limit = t }

    abbrev greater : Scene
    greater = record { program = program; script = script; limit = m }

    more_grows : Grows {A = Way} (λ w. More w)
    more_grows = record { at = λ w. (give_grows Through).at w }

    pub nested_up : (k i : ℕ) → k ≤ i → (s : Stmt)
        → Behind k (nested lesser k s) (nested greater i s)
    nested_up zero zero h s =
        record { at = λ j e. absurd (omega (arith, e)); low = more_grows; high = more_grows }
    nested_up zero (suc i) h s =
        record {
          at = λ j e. absurd (omega (arith, e));
          low = more_grows;
          high =
              (run_up program script zero (nested lesser zero) (nested greater i)
              (nested_up zero i (omega arith)) s).high;
        }
    nested_up (suc k) zero h s = absurd (omega arith)
    nested_up (suc k) (suc i) h s =
        let u =
        run_up program script k (nested lesser k) (nested greater i)
        (nested_up k i (omega arith)) s in
        record {
          at = λ j e. subst (λ n. Up n (nested lesser (suc k) s) (nested greater (suc i) s))
              (omega (arith, e)) u;
          low = u.low;
          high = u.high;
        }

    all_up : (k i : ℕ) → k ≤ i → (s : Stmt)
        → Up k (run lesser (nested lesser k) s) (run greater (nested greater i) s)
    all_up k i h s =
        run_up program script k (nested lesser k) (nested greater i) (nested_up k i h) s

    entered : (f : ℕ) (function : Function)
        → Up t (entry_run lesser f function) (entry_run greater f function)
    entered f function =
        after_up (entered_up (run lesser (nested lesser t)) (run greater (nested greater m))
        (all_up t m least) f function []) (λ v. stop_up (end.Done v))

    without_params_up : (f : ℕ) (function : Function) (params : List Slot)
        → Up t (without_params lesser f function params) (without_params greater f function params)
    without_params_up f function [] = entered f function
    without_params_up f function (param ∷ params) = stop_up end.Stray

    entry_or_stray_up : (f : ℕ) (function : Option Function)
        → Up t (entry_or_stray lesser f function) (entry_or_stray greater f function)
    entry_or_stray_up f None = stop_up end.Stray
    entry_or_stray_up f (Some function) = without_params_up f function function.params

    pub whole_below : (f : ℕ) → Below t m least (whole lesser f) (whole greater f)
    whole_below f =
        (entry_or_stray_up f (slice_get program.functions f)).at (first_world program)
        (record { enough = omega arith; within = omega arith })

    pub whole_grows : (f : ℕ) → Later (first_world program) (world_of (whole lesser f))
    whole_grows f =
        (entry_or_stray_up f (slice_get program.functions f)).low.at (first_world program)

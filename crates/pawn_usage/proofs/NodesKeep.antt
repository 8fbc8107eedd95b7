-- What each node keeps: one line a node. A node may call what is called in it.
use Rattle.std.proofs.Common.{◌≡◌, ◌+◌, ◌*◌, ◌<◌, ℕ, ℤ, zero, suc, pos, List, [], ◌∷◌}
use Rattle.std.proofs.Common.{◌++◌, Option, None, Some, Bool, true, false, refl, sym, ap, subst}
use Rattle.std.proofs.Common.{length, slice_get, if◌then◌else◌}
use Rattle.std.specs.Prelude.{Contains}
use Rattle.std.proofs.lemmas.Option.{slice_get_within}
use Rattle.std.proofs.lemmas.List.Elements.{Contains-append_left, Contains-append_right}
use Rattle.std.proofs.lemmas.List.Elements.{Contains-push}
use Rattle.host_script.specs.declared.event.End.TheVariants as end
use Rattle.host_script.specs.declared.event.Event.TheVariants as event
use Rattle.pawn_cells.specs.declared.operator.Comparison.{Comparison}
use Rattle.pawn_cells.specs.declared.operator.Logical.TheVariants as logic
use Rattle.pawn_cells.specs.Cells.{cell_of, is_zero, add, truth}
use Rattle.pawn_cells.specs.Operators.{prefix, binary, compare, logical}
use Rattle.pawn_meaning.specs.Program.{Scalar, Global, Own, Element, Char, Array, Object, SlotArray}
use Rattle.pawn_meaning.specs.Program.{ParamArray, Row, From, Expr, Const, Read, Unary, Binary}
use Rattle.pawn_meaning.specs.Program.{Chain, And, Or, Cond, Assign, Update, UpdateBy, Step, StepBy}
use Rattle.pawn_meaning.specs.Program.{Copy, Operate, OperateOne, Call, Native, Seq, Links}
use Rattle.pawn_meaning.specs.Program.{no_links, then_link, Arg, Ref, Whole, Temp, Args, no_args}
use Rattle.pawn_meaning.specs.Program.{then_arg, Perhaps, Absent, Present, Stmt, Block, Local}
use Rattle.pawn_meaning.specs.Program.{LocalArray, Do, If, While, DoWhile, For, Switch, Return}
use Rattle.pawn_meaning.specs.Program.{Break, Continue, Exit, Sleep, Assert, State, Empty, Else}
use Rattle.pawn_meaning.specs.Program.{no_else, otherwise, Cases, no_cases, then_case, Stmts}
use Rattle.pawn_meaning.specs.Program.{no_stmts, then_stmt, Body, Route, Function, Program}
use Rattle.pawn_meaning.specs.Program as node
use Rattle.pawn_meaning.specs.Memory as memory
use Rattle.pawn_meaning.specs.Memory.{Memory, Static, Place, one_cell, running, whole_of}
use Rattle.pawn_meaning.specs.Memory.{own_whole, through, read, write, copied, made, with_temporary}
use Rattle.pawn_meaning.specs.Memory.{switched, object_at}
use Rattle.pawn_meaning.specs.Run.{Run, done, ◌>>=◌, give, change}
use Rattle.pawn_meaning.specs.Natives.{Held, Value, Refers}
use Rattle.pawn_meaning.specs.References.{is_known, index_in, outside, index, first_size, row_at}
use Rattle.pawn_meaning.specs.References.{rest_from, cell_at, character_at, to_cell, refers}
use Rattle.pawn_meaning.specs.Calls.{Way, Through, Broke, Continued, Returned, pass, again}
use Rattle.pawn_meaning.specs.Calls.{value_of, body_at, body_by, routed, frame_of, run_body}
use Rattle.pawn_meaning.specs.Calls.{enter_function, enter_of, entry_for, serves}
use Rattle.pawn_meaning.specs.Meaning.{Scene, Fewer, name_of, in_ranges, ended, call}
use Rattle.pawn_meaning.specs.Meaning.{call_two, converted, linked, place, array, value, chain}
use Rattle.pawn_meaning.specs.Meaning.{chained, argument, arguments, condition, perhaps, call_entry}
use Rattle.pawn_meaning.specs.Meaning.{run, run_else, run_case, run_all}
use Rattle.pawn_usage.specs.Called.{at_most_one, called, called_in_place, called_in_array}
use Rattle.pawn_usage.specs.Called.{called_in_links, called_in_arg, called_in_args, called_perhaps}
use Rattle.pawn_usage.specs.Called.{called_by, called_by_else, called_by_cases}
use Rattle.pawn_usage.specs.Called.{called_by_all, called_by_bodies, called_from}
use Rattle.pawn_usage.specs.Chains.{called_at, need_of}
use Rattle.pawn_usage.proofs.ChainLaws.{IsLive}
use Rattle.pawn_usage.proofs.FrameLaws.{same_frames, write_keeps, copied_keeps, made_keeps}
use Rattle.pawn_usage.proofs.FrameLaws.{switched_keeps}
use Rattle.pawn_usage.proofs.KeepLaws.{Keeps, after_keeps, give_keeps, stop_keeps, or_stop_keeps}
use Rattle.pawn_usage.proofs.KeepLaws.{look_keeps, look_then, change_keeps, say_keeps, turn_keeps}
use Rattle.pawn_usage.proofs.KeepLaws.{choose_keeps, with_heap_keeps, native_keeps}
use Rattle.pawn_usage.proofs.KeepLaws.{with_frame_keeps}

-- these functions may be called where others are alive
pub record Allowed (program : Program) (live gs : List ℕ) : Type 0 where
  pub at : (g : ℕ) → Contains gs g → g < length program.functions → IsLive program (g ∷ live)

left_of : {program : Program} {live xs : List ℕ} (ys : List ℕ) → Allowed program live (xs ++ ys)
    → Allowed program live xs
left_of {xs = xs} ys h = record { at = λ g c l. h.at g (Contains-append_left xs ys g c) l }

right_of : {program : Program} {live ys : List ℕ} (xs : List ℕ) → Allowed program live (xs ++ ys)
    → Allowed program live ys
right_of {ys = ys} xs h = record { at = λ g c l. h.at g (Contains-append_right xs ys g c) l }

-- what may be called from a function that is alive
pub allowed_by : (program : Program) (f : ℕ) (live : List ℕ) → IsLive program (f ∷ live)
    → Allowed program (f ∷ live) (called_at program f)
allowed_by program f live is_live =
    record { at = λ g c l. (record { there = l; called = c }, is_live) }

-- ---- bodies

in_bodies : (program : Program) (bodies : List Body) (i : ℕ) (body : Body) (g : ℕ)
    → slice_get bodies i ≡ Some body → Contains (called_by program body.stmt) g
    → Contains (called_by_bodies program bodies) g
in_bodies program [] i body g e c = absurd (let no : ⊥ = cc in no)
in_bodies program (b ∷ bodies) zero body g e c =
    let same : b ≡ body = cc in
    Contains-append_left (called_by program b.stmt) (called_by_bodies program bodies) g
    (subst (λ (x : Body). Contains (called_by program x.stmt) g) (sym same) c)
in_bodies program (b ∷ bodies) (suc i) body g e c =
    Contains-append_right (called_by program b.stmt) (called_by_bodies program bodies) g
    (in_bodies program bodies i body g e c)

-- the body that runs is one of the function's
pub record IsBodyOf (function : Function) (body : Body) : Type 0 where
  pub number : ℕ
  pub is : slice_get function.bodies number ≡ Some body

body_at_is : (function : Function) (number : Option ℕ) (body : Body)
    → body_at function number ≡ Some body → IsBodyOf function body
body_at_is function None body e = absurd (let no : ⊥ = cc in no)
body_at_is function (Some number) body e = record { number = number; is = e }

body_by_is : (function : Function) (route : Option Route) (m : Memory) (body : Body)
    → body_by function route m ≡ Some body → IsBodyOf function body
body_by_is function None m body e = record { number = 0; is = e }
body_by_is function (Some route) m body e =
    body_at_is function (routed route (slice_get m.states route.automaton)) body e

-- ---- the nodes

module _ (scene : Scene) (fewer : Fewer)
    (keeps : (live : List ℕ) (s : Stmt) → Allowed scene.program live (called_by scene.program s)
    → Keeps scene.program live (fewer s)) where
  body_keeps : (live : List ℕ) (f : ℕ) (function : Function) (body : Option Body)
      → slice_get scene.program.functions f ≡ Some function
      → IsLive scene.program (f ∷ live)
      → ((it : Body) → body ≡ Some it → IsBodyOf function it)
      → Keeps scene.program (f ∷ live) (run_body fewer body)
  body_keeps live f function None e is_live is =
      record { at = λ w good stands. good }
  body_keeps live f function (Some it) e is_live is =
      let b = is it refl in
      let allowed : Allowed scene.program (f ∷ live) (called_by scene.program it.stmt) =
      record {
        at = λ g c l. (allowed_by scene.program f live is_live).at g
            (subst (λ o. Contains (called_from scene.program o) g) (sym e)
            (in_bodies scene.program function.bodies b.number it g b.is c)) l;
      } in
      let k : Keeps scene.program (f ∷ live) (fewer it.stmt >>= (λ way. give (value_of way))) =
      after_keeps (keeps (f ∷ live) it.stmt allowed) (λ way. give_keeps (value_of way)) in
      record { at = λ w good stands. k.at w good stands }

  pub enter_keeps : (live : List ℕ) (f : ℕ) (function : Function) (held : List Held)
      → slice_get scene.program.functions f ≡ Some function → IsLive scene.program (f ∷ live)
      → Keeps scene.program live (enter_function fewer f function held)
  enter_keeps live f function held e is_live =
      look_then (λ m. Some (body_by function function.dispatch m)) (λ m body seen.
      with_frame_keeps (frame_of f function held body) (ap need_of (sym e)) is_live
      (body_keeps live f function body e is_live
      (λ it found. body_by_is function function.dispatch m it (of_seen m body it seen found))))
    where
      of_seen : (m : Memory) (body : Option Body) (it : Body)
          → Some (body_by function function.dispatch m) ≡ Some body → body ≡ Some it
          → body_by function function.dispatch m ≡ Some it
      of_seen m body it seen found = cc

  call_keeps : {live : List ℕ} (f : ℕ) (held : List Held) → Allowed scene.program live (f ∷ [])
      → Keeps scene.program live (call scene fewer f held)
  call_keeps {live} f held allowed =
      look_then (λ m. slice_get scene.program.functions f) (λ m function found.
      after_keeps (turn_keeps scene.limit) (λ _. enter_keeps live f function held found
      (allowed.at f (Contains-push [] f)
      (slice_get_within scene.program.functions f function found))))

  two_keeps : {live : List ℕ} (f : ℕ) (swapped : Bool) (x y : ℤ)
      → Allowed scene.program live (f ∷ [])
      → Keeps scene.program live (call_two scene fewer f swapped x y)
  two_keeps f true x y h = call_keeps f (Value y ∷ Value x ∷ []) h
  two_keeps f false x y h = call_keeps f (Value x ∷ Value y ∷ []) h

  converted_keeps : {live : List ℕ} (f : Option ℕ) (v : ℤ)
      → Allowed scene.program live (at_most_one f)
      → Keeps scene.program live (converted scene fewer f v)
  converted_keeps None v h = give_keeps v
  converted_keeps (Some f) v h = call_keeps f (Value v ∷ []) h

  linked_keeps : {live : List ℕ} (o : Comparison) (f : Option ℕ) (swapped : Bool) (x y : ℤ)
      → Allowed scene.program live (at_most_one f)
      → Keeps scene.program live (linked scene fewer o f swapped x y)
  linked_keeps o None swapped x y h = give_keeps (truth (compare o x y))
  linked_keeps o (Some f) swapped x y h = two_keeps f swapped x y h

  index_keeps : {live : List ℕ} (known : Bool) (n : ℕ) (v : ℤ)
      → Keeps scene.program live (index known n v)
  index_keeps known n v = or_stop_keeps (index_in n v) (outside known)

  refers_keeps : {live : List ℕ} (at : Place) → Keeps scene.program live (refers at)
  refers_keeps (memory.Cell name i) = give_keeps (Refers (to_cell name i))
  refers_keeps (memory.Character name i c) = stop_keeps end.Stray

  write_at : {live : List ℕ} (at : Place) (v : ℤ) → Keeps scene.program live (change (write at v))
  write_at at v = change_keeps (write at v) (write_keeps at v)

  mutual
    place_keeps : {live : List ℕ} (p : Scalar) → Allowed scene.program live (called_in_place p)
        → Keeps scene.program live (place scene fewer p)
    place_keeps (Global o) h = give_keeps (memory.Cell (Static o) 0)
    place_keeps (Own s) h = look_keeps (λ m. Some (memory.Cell (memory.Local (running m) s) 0))
    place_keeps (node.Through s) h =
        after_keeps (look_keeps (through s)) (λ r. give_keeps (cell_at r 0))
    place_keeps (Element a e) h =
        after_keeps (array_keeps a (left_of _ h)) (λ r. after_keeps (value_keeps e (right_of _ h))
        (λ v. after_keeps (index_keeps (is_known a) (first_size r.sizes) v)
        (λ i. give_keeps (cell_at r i))))
    place_keeps (Char a e) h =
        after_keeps (array_keeps a (left_of _ h)) (λ r. after_keeps (value_keeps e (right_of _ h))
        (λ v. after_keeps (index_keeps (is_known a) (4 * first_size r.sizes) v)
        (λ i. give_keeps (character_at r i))))

    array_keeps : {live : List ℕ} (a : Array) → Allowed scene.program live (called_in_array a)
        → Keeps scene.program live (array scene fewer a)
    array_keeps (Object o) h = look_keeps (whole_of (Static o))
    array_keeps (SlotArray s) h = look_keeps (own_whole s)
    array_keeps (ParamArray s known) h = look_keeps (through s)
    array_keeps (Row a e) h =
        after_keeps (array_keeps a (left_of _ h)) (λ r. after_keeps (value_keeps e (right_of _ h))
        (λ v. after_keeps (index_keeps (is_known a) (first_size r.sizes) v)
        (λ i. give_keeps (row_at r i))))
    array_keeps (From a e) h =
        after_keeps (array_keeps a (left_of _ h)) (λ r. after_keeps (value_keeps e (right_of _ h))
        (λ v. after_keeps (index_keeps (is_known a) (first_size r.sizes) v)
        (λ i. give_keeps (rest_from r i))))

    value_keeps : {live : List ℕ} (e : Expr) → Allowed scene.program live (called e)
        → Keeps scene.program live (value scene fewer e)
    value_keeps (Const v) h = give_keeps v
    value_keeps (Read p) h = after_keeps (place_keeps p h) (λ at. look_keeps (read at))
    value_keeps (Unary o e) h = after_keeps (value_keeps e h) (λ v. give_keeps (prefix o v))
    value_keeps (Binary o l r) h =
        after_keeps (value_keeps l (left_of _ h)) (λ x. after_keeps (value_keeps r (right_of _ h))
        (λ y. or_stop_keeps (binary o x y) (end.Error (pos 11))))
    value_keeps (Chain e links) h =
        after_keeps (value_keeps e (left_of _ h)) (λ x. chain_keeps links x (right_of _ h))
    value_keeps (And l r) h =
        after_keeps (value_keeps l (left_of _ h)) (λ x. choose_keeps (is_zero x)
        (give_keeps (pos 0))
        (after_keeps (value_keeps r (right_of _ h)) (λ y. give_keeps (logical logic.And x y))))
    value_keeps (Or l r) h =
        after_keeps (value_keeps l (left_of _ h)) (λ x. choose_keeps (is_zero x)
        (after_keeps (value_keeps r (right_of _ h)) (λ y. give_keeps (logical logic.Or x y)))
        (give_keeps (pos 1)))
    value_keeps (Cond c a b) h =
        after_keeps (value_keeps c (left_of _ h)) (λ x. choose_keeps (is_zero x)
        (value_keeps b (right_of _ (right_of _ h))) (value_keeps a (left_of _ (right_of _ h))))
    value_keeps (Assign p e) h =
        after_keeps (place_keeps p (left_of _ h)) (λ at. after_keeps (value_keeps e (right_of _ h))
        (λ v. after_keeps (write_at at v) (λ _. give_keeps v)))
    value_keeps (Update p o e) h =
        after_keeps (place_keeps p (left_of _ h)) (λ at. after_keeps (value_keeps e (right_of _ h))
        (λ y. after_keeps (look_keeps (read at))
        (λ x. after_keeps (or_stop_keeps (binary o x y) (end.Error (pos 11)))
        (λ v. after_keeps (write_at at v) (λ _. give_keeps v)))))
    value_keeps (UpdateBy p f swapped e convert) h =
        after_keeps (place_keeps p (left_of _ h))
        (λ at. after_keeps (value_keeps e (left_of _ (right_of _ h)))
        (λ y. after_keeps (look_keeps (read at))
        (λ x. after_keeps (two_keeps f swapped x y (right_of (at_most_one convert)
        (right_of (called e) (right_of (called_in_place p) h))))
        (λ u. after_keeps (converted_keeps convert u (left_of (f ∷ [])
        (right_of (called e) (right_of (called_in_place p) h))))
        (λ v. after_keeps (write_at at v) (λ _. give_keeps v))))))
    value_keeps (Step p delta prefix) h =
        after_keeps (place_keeps p h) (λ at. after_keeps (look_keeps (read at))
        (λ x. after_keeps (write_at at (add x delta))
        (λ _. give_keeps (if prefix then add x delta else x))))
    value_keeps (StepBy p f prefix) h =
        after_keeps (place_keeps p (left_of _ h)) (λ at. after_keeps (look_keeps (read at))
        (λ x. after_keeps (call_keeps f (Value x ∷ []) (right_of _ h))
        (λ v. after_keeps (write_at at v) (λ _. give_keeps (if prefix then v else x)))))
    value_keeps (Copy to from cells) h =
        after_keeps (array_keeps to (left_of _ h)) (λ r. after_keeps (array_keeps from (right_of _ h))
        (λ q. after_keeps (change_keeps (copied r q cells) (copied_keeps r q cells))
        (λ _. give_keeps (pos 0))))
    value_keeps (Operate f l r swapped) h =
        after_keeps (value_keeps l (left_of _ h))
        (λ x. after_keeps (value_keeps r (left_of _ (right_of _ h)))
        (λ y. two_keeps f swapped x y (right_of _ (right_of _ h))))
    value_keeps (OperateOne f e) h =
        after_keeps (value_keeps e (left_of _ h))
        (λ v. call_keeps f (Value v ∷ []) (right_of _ h))
    value_keeps (Call f args) h =
        with_heap_keeps (after_keeps (arguments_keep args (left_of _ h))
        (λ held. call_keeps f held (right_of _ h)))
    value_keeps (Native n args) h =
        with_heap_keeps (after_keeps (arguments_keep args h)
        (λ held. native_keeps scene.script (name_of scene.program n) held))
    value_keeps (Seq a b) h =
        after_keeps (value_keeps a (left_of _ h)) (λ _. value_keeps b (right_of _ h))

    chain_keeps : {live : List ℕ} (links : Links) (x : ℤ)
        → Allowed scene.program live (called_in_links links)
        → Keeps scene.program live (chain scene fewer links x)
    chain_keeps no_links x h = give_keeps x
    chain_keeps (then_link o e f swapped links) x h =
        after_keeps (value_keeps e (left_of _ (left_of _ h)))
        (λ y. after_keeps (linked_keeps o f swapped x y (right_of _ (left_of _ h)))
        (λ v. after_keeps (chained_keeps links y v (right_of _ h))
        (λ u. give_keeps (ended links u))))

    chained_keeps : {live : List ℕ} (links : Links) (x v : ℤ)
        → Allowed scene.program live (called_in_links links)
        → Keeps scene.program live (chained scene fewer links x v)
    chained_keeps no_links x v h = give_keeps v
    chained_keeps (then_link o e f swapped links) x v h =
        choose_keeps (is_zero v) (give_keeps (pos 0))
        (after_keeps (value_keeps e (left_of _ (left_of _ h)))
        (λ y. after_keeps (linked_keeps o f swapped x y (right_of _ (left_of _ h)))
        (λ u. chained_keeps links y u (right_of _ h))))

    argument_keeps : {live : List ℕ} (a : Arg) → Allowed scene.program live (called_in_arg a)
        → Keeps scene.program live (argument scene fewer a)
    argument_keeps (node.Value e) h = after_keeps (value_keeps e h) (λ v. give_keeps (Value v))
    argument_keeps (Ref p) h = after_keeps (place_keeps p h) (λ at. refers_keeps at)
    argument_keeps (Whole a) h = after_keeps (array_keeps a h) (λ r. give_keeps (Refers r))
    argument_keeps (Temp e) h =
        after_keeps (value_keeps e h) (λ v. after_keeps (look_keeps (λ m. Some (length m.heap)))
        (λ n. after_keeps
        (change_keeps (λ m. Some (with_temporary v m)) (λ m. same_frames m.frames))
        (λ _. give_keeps (Refers (to_cell (memory.Temporary n) 0)))))

    arguments_keep : {live : List ℕ} (args : Args)
        → Allowed scene.program live (called_in_args args)
        → Keeps scene.program live (arguments scene fewer args)
    arguments_keep no_args h = give_keeps []
    arguments_keep (then_arg a args) h =
        after_keeps (arguments_keep args (right_of _ h))
        (λ others. after_keeps (argument_keeps a (left_of _ h))
        (λ first. give_keeps (first ∷ others)))

  condition_keeps : {live : List ℕ} (c : Perhaps) → Allowed scene.program live (called_perhaps c)
      → Keeps scene.program live (condition scene fewer c)
  condition_keeps Absent h = give_keeps (pos 1)
  condition_keeps (Present e) h = value_keeps e h

  perhaps_keeps : {live : List ℕ} (c : Perhaps) → Allowed scene.program live (called_perhaps c)
      → Keeps scene.program live (perhaps scene fewer c)
  perhaps_keeps Absent h = give_keeps done
  perhaps_keeps (Present e) h = after_keeps (value_keeps e h) (λ _. give_keeps done)

  called_entry : {live : List ℕ} (f : Option ℕ) → Allowed scene.program live (at_most_one f)
      → Keeps scene.program live (call_entry scene fewer f)
  called_entry None h = give_keeps Through
  called_entry (Some f) h = after_keeps (call_keeps f [] h) (λ _. give_keeps Through)

  served_entry : {live : List ℕ} (b : Bool) (f : ℕ) → Allowed scene.program live (f ∷ [])
      → Keeps scene.program live (call_entry scene fewer (if b then Some f else None))
  served_entry true f h = called_entry (Some f) h
  served_entry false f h = give_keeps Through

  entry_keeps : {live : List ℕ} (automaton state : ℕ) (f : Option ℕ)
      → Allowed scene.program live (at_most_one f)
      → Keeps scene.program live
      (call_entry scene fewer (entry_for scene.program automaton state f))
  entry_keeps automaton state None h = give_keeps Through
  entry_keeps automaton state (Some f) h =
      served_entry (serves (slice_get scene.program.functions f) automaton state) f h

  pass_keeps : {live : List ℕ} (way : Way) {c : Run Way} → Keeps scene.program live c
      → Keeps scene.program live (pass way c)
  pass_keeps Through k = k
  pass_keeps Broke k = give_keeps Broke
  pass_keeps Continued k = give_keeps Continued
  pass_keeps (Returned v) k = give_keeps (Returned v)

  again_keeps : {live : List ℕ} (way : Way) {c : Run Way} → Keeps scene.program live c
      → Keeps scene.program live (again way c)
  again_keeps Through k = k
  again_keeps Broke k = give_keeps Through
  again_keeps Continued k = k
  again_keeps (Returned v) k = give_keeps (Returned v)

  mutual
    pub run_keeps : {live : List ℕ} (s : Stmt)
        → Allowed scene.program live (called_by scene.program s)
        → Keeps scene.program live (run scene fewer s)
    run_keeps (Block stmts) h = run_all_keeps stmts h
    run_keeps (Local s e) h =
        after_keeps (value_keeps e h) (λ v. after_keeps
        (change_keeps (made s (one_cell v)) (made_keeps s (one_cell v)))
        (λ _. give_keeps Through))
    run_keeps (LocalArray s o) h =
        after_keeps (look_keeps (λ m. object_at m (Static o)))
        (λ object. after_keeps (change_keeps (made s object) (made_keeps s object))
        (λ _. give_keeps Through))
    run_keeps (Do e) h = after_keeps (value_keeps e h) (λ _. give_keeps Through)
    run_keeps (If c a b) h =
        after_keeps (value_keeps c (left_of _ h)) (λ v. choose_keeps (is_zero v)
        (run_else_keeps b (right_of _ (right_of _ h))) (run_keeps a (left_of _ (right_of _ h))))
    run_keeps {live} (While c s) h =
        after_keeps (value_keeps c (left_of _ h)) (λ v. choose_keeps (is_zero v)
        (give_keeps Through) (after_keeps (turn_keeps scene.limit)
        (λ _. after_keeps (run_keeps s (right_of _ h))
        (λ way. again_keeps way (keeps live (While c s) h)))))
    run_keeps {live} (DoWhile s c) h =
        after_keeps (turn_keeps scene.limit) (λ _. after_keeps (run_keeps s (left_of _ h))
        (λ way. again_keeps way (after_keeps (value_keeps c (right_of _ h))
        (λ v. choose_keeps (is_zero v) (give_keeps Through) (keeps live (DoWhile s c) h)))))
    run_keeps {live} (For first c step s) h =
        let behind_first : Allowed scene.program live
        (called_perhaps c ++ (called_perhaps step ++ called_by scene.program s)) =
        right_of (called_by_all scene.program first) h in
        let behind_test : Allowed scene.program live
        (called_perhaps step ++ called_by scene.program s) =
        right_of (called_perhaps c) behind_first in
        after_keeps (run_all_keeps first (left_of _ h)) (λ way. pass_keeps way
        (after_keeps (condition_keeps c (left_of _ behind_first))
        (λ v. choose_keeps (is_zero v) (give_keeps Through)
        (after_keeps (turn_keeps scene.limit)
        (λ _. after_keeps (run_keeps s (right_of _ behind_test))
        (λ behind. again_keeps behind
        (after_keeps (perhaps_keeps step (left_of _ behind_test))
        (λ _. keeps live (For no_stmts c step s) behind_first))))))))
    run_keeps (Switch e cases d) h =
        after_keeps (value_keeps e (left_of _ h)) (λ v. run_case_keeps cases v
        (left_of _ (right_of _ h)) (run_else_keeps d (right_of _ (right_of _ h))))
    run_keeps (Return e) h = after_keeps (value_keeps e h) (λ v. give_keeps (Returned v))
    run_keeps Break h = give_keeps Broke
    run_keeps Continue h = give_keeps Continued
    run_keeps (Exit e tag) h =
        after_keeps (value_keeps e h) (λ v. stop_keeps (end.Exit v (cell_of tag)))
    run_keeps (Sleep e tag) h =
        after_keeps (value_keeps e h)
        (λ v. after_keeps (say_keeps (event.Slept v (cell_of tag))) (λ _. give_keeps Through))
    run_keeps (Assert e) h =
        after_keeps (value_keeps e h) (λ v. choose_keeps (is_zero v)
        (stop_keeps (end.Error (pos 2))) (give_keeps Through))
    run_keeps (State automaton state c) h =
        after_keeps (condition_keeps c (left_of _ h)) (λ v. choose_keeps (is_zero v)
        (give_keeps Through) (after_keeps
        (change_keeps (switched automaton state) (switched_keeps automaton state))
        (λ _. entry_keeps automaton state (enter_of (slice_get scene.program.automata automaton))
        (right_of _ h))))
    run_keeps Empty h = give_keeps Through

    run_else_keeps : {live : List ℕ} (b : Else)
        → Allowed scene.program live (called_by_else scene.program b)
        → Keeps scene.program live (run_else scene fewer b)
    run_else_keeps no_else h = give_keeps Through
    run_else_keeps (otherwise s) h = run_keeps s h

    run_case_keeps : {live : List ℕ} (cases : Cases) (v : ℤ) {other : Run Way}
        → Allowed scene.program live (called_by_cases scene.program cases)
        → Keeps scene.program live other
        → Keeps scene.program live (run_case scene fewer cases other v)
    run_case_keeps no_cases v h k = k
    run_case_keeps (then_case ranges s cases) v h k =
        choose_keeps (in_ranges ranges v) (run_keeps s (left_of _ h))
        (run_case_keeps cases v (right_of _ h) k)

    run_all_keeps : {live : List ℕ} (stmts : Stmts)
        → Allowed scene.program live (called_by_all scene.program stmts)
        → Keeps scene.program live (run_all scene fewer stmts)
    run_all_keeps no_stmts h = give_keeps Through
    run_all_keeps (then_stmt s stmts) h =
        after_keeps (run_keeps s (left_of _ h))
        (λ way. pass_keeps way (run_all_keeps stmts (right_of _ h)))

-- What stands behind the tables of a valid program changes no run: one line a node.
use Rattle.std.proofs.Common.{◌≡◌, ◌∙◌, ◌++◌, ◌<◌, ◌*◌, ℕ, zero, suc, ℤ, pos, List, [], ◌∷◌, Bool}
use Rattle.std.proofs.Common.{true}
use Rattle.std.proofs.Common.{false, Option, None, Some, IfSome, length, slice_get, refl, sym}
use Rattle.std.proofs.Common.{ap, subst, arith, length-append, if◌then◌else◌}
use Rattle.std.proofs.lemmas.Option.{slice_get_within, slice_get-get_or, get_or_from_slice_get}
use Rattle.std.proofs.lemmas.Option.{unwrap_or-slice_get}
use Rattle.std.proofs.lemmas.List.{get_or_append_left}
use Rattle.host_script.specs.declared.script.Script.{Script}
use Rattle.host_script.specs.declared.event.End.{End}
use Rattle.host_script.specs.declared.event.End.TheVariants as end
use Rattle.host_script.specs.declared.event.Event.{Event}
use Rattle.host_script.specs.declared.event.Event.TheVariants as event
use Rattle.pawn_cells.specs.declared.operator.Comparison.{Comparison}
use Rattle.pawn_cells.specs.declared.operator.Logical.TheVariants as logic
use Rattle.pawn_cells.specs.Cells.{cell_of, is_zero, add, truth}
use Rattle.pawn_cells.specs.Operators.{prefix, binary, compare, logical}
use Rattle.pawn_meaning.specs.Program.{Scalar, Global, Own, Element, Char, Array, Object, SlotArray}
use Rattle.pawn_meaning.specs.Program.{ParamArray, Row, From, Expr, Const, Read, Unary, Binary}
use Rattle.pawn_meaning.specs.Program.{Chain, And, Or, Cond, Assign, Update, UpdateBy, Step, StepBy}
use Rattle.pawn_meaning.specs.Program.{Copy, Operate, OperateOne, Call, Native, Seq, Links}
use Rattle.pawn_meaning.specs.Program.{no_links, then_link, Arg, Ref, Whole, Temp, Args, no_args}
use Rattle.pawn_meaning.specs.Program.{then_arg, Perhaps, Absent, Present, Stmt, Block, Local}
use Rattle.pawn_meaning.specs.Program.{LocalArray, Do, If, While, DoWhile, For, Switch, Return}
use Rattle.pawn_meaning.specs.Program.{Break, Continue, Exit, Sleep, Assert, State, Empty, Else}
use Rattle.pawn_meaning.specs.Program.{no_else, otherwise, Cases, no_cases, then_case, Stmts}
use Rattle.pawn_meaning.specs.Program.{no_stmts, then_stmt, Slot, Body, Route, Function, Program}
use Rattle.pawn_meaning.specs.Program as node
use Rattle.pawn_meaning.specs.Memory as memory
use Rattle.pawn_meaning.specs.Memory.{Memory, Static, Frame, one_cell, whole_of, own_whole, through}
use Rattle.pawn_meaning.specs.Memory.{read, write, copied, made, with_temporary, cut_heap, switched}
use Rattle.pawn_meaning.specs.Memory.{object_at, running}
use Rattle.pawn_meaning.specs.World.{World, first_world}
use Rattle.pawn_meaning.specs.Run.{Outcome, Gives, Stops, More, Run, done, then_do, ◌>>=◌, give}
use Rattle.pawn_meaning.specs.Run.{stop}
use Rattle.pawn_meaning.specs.Run.{or_stop, turn, look, change, say, enter, leave, with_frame}
use Rattle.pawn_meaning.specs.Run.{with_heap, choose}
use Rattle.pawn_meaning.specs.Natives.{Held, Value, Refers, call_native}
use Rattle.pawn_meaning.specs.References.{index_in, outside}
use Rattle.pawn_meaning.specs.References.{is_known, first_size, row_at, rest_from, cell_at}
use Rattle.pawn_meaning.specs.References.{character_at, to_cell, refers}
use Rattle.pawn_meaning.specs.Calls.{Way, Through, Broke, Continued, Returned, pass, again}
use Rattle.pawn_meaning.specs.Calls.{value_of}
use Rattle.pawn_meaning.specs.Calls.{body_at, body_by, routed, frame_of, run_body, enter_function}
use Rattle.pawn_meaning.specs.Calls.{enter_of, entry_for, serves}
use Rattle.pawn_meaning.specs.Meaning.{Scene, Fewer, name_of, in_ranges, ended, call, call_one}
use Rattle.pawn_meaning.specs.Meaning.{call_two, converted, linked, place, array, value, chain}
use Rattle.pawn_meaning.specs.Meaning.{chained, argument, arguments, condition, perhaps, call_entry}
use Rattle.pawn_meaning.specs.Meaning.{run, run_else, run_case, run_all}
use Rattle.pawn_meaning.specs.Told.{nested, without_params, entry_or_stray, whole, told_of}
use Rattle.pawn_meaning.specs.Scope.{Scope}
use Rattle.pawn_meaning.specs.ValidExprs.{Takes, IsOperator, IsValidScalar, IsValidArray}
use Rattle.pawn_meaning.specs.ValidExprs.{IsValidExpr}
use Rattle.pawn_meaning.specs.ValidExprs.{AreValidLinks, IsValidArg, AreValidArgs, IsValidPerhaps}
use Rattle.pawn_meaning.specs.ValidStmts.{IsValidStmt, IsValidElse, AreValidCases, AreValidStmts}
use Rattle.pawn_meaning.specs.ValidStmts.{slots_made, slots_made_by}
use Rattle.pawn_meaning.specs.Valid.{IsValid, IsValidBody, IsValidFunction, IsValidAutomaton}
use Rattle.std.proofs.Common.{map, replicate, IsSome, nat_lt, ◌+◌, ◌-◌}
use Rattle.std.proofs.lemmas.List.{map-append, replicate-append-replicate, length-replicate}
use Rattle.std.proofs.lemmas.List.{length-map}
use Rattle.host_script.specs.NativeCall.{Called, Ends_there, Answers, native_call}
use Rattle.pawn_meaning.specs.Program.{StaticObject}
use Rattle.pawn_meaning.specs.Memory.{Name, Reference, Place, Unmade}
use Rattle.pawn_meaning.specs.World.{but_first, first_object, first_memory}
use Rattle.pawn_meaning.specs.Run.{changed, Done}
use Rattle.pawn_meaning.specs.Natives.{Spot, after_call, finished, see, with_writes}
use Rattle.pawn_meaning.specs.Calls.{held_in_slot, slots_of}
use Rattle.pawn_meaning.specs.Scope.{object_extent}
use Rattle.pawn_meaning.specs.ValidExprs.{IsCellObject}
use Rattle.pawn_meaning.specs.Valid.{IsValidRoute}
use Rattle.meaning_laws.specs.NumbersAreInRange.{NumbersAreInRange, with_tables}
use Rattle.meaning_laws.proofs.Besides.{beside, NameFits, SlotsFit, FramesFit, PlaceFits, HeldFits}
use Rattle.meaning_laws.proofs.Besides.{AllHeldFit, Fits, Kept, front_get, through_fits}
use Rattle.meaning_laws.proofs.Besides.{object_same}
use Rattle.meaning_laws.proofs.Besides.{refit, read_same, write_kept, copied_kept, whole_fits}
use Rattle.meaning_laws.proofs.Besides.{made_kept, temporary_kept, cut_kept, switched_kept}
use Rattle.meaning_laws.proofs.ValidParts.{if_there, past_none, scope, valid_body, next_pass}
use Rattle.meaning_laws.proofs.NativeBesides.{CalledFits, native_fits, native_seen, writes_kept}

-- ---- lists

-- what is there stays there with more behind it
there_too : {X : Type 0} (xs ys : List X) (i : ℕ) (x : X) → slice_get xs i ≡ Some x
    → slice_get (xs ++ ys) i ≡ Some x
there_too xs ys i x e =
    let within = slice_get_within xs i x e in
    let both = length-append xs ys in
    slice_get-get_or (xs ++ ys) i x (omega (arith, within, both))
    ∙ ap Some (get_or_append_left xs ys x i within ∙ get_or_from_slice_get xs i x x e)

-- ---- runs of a valid program, and of it with more behind its tables

module _ (program : Program) (valid : IsValid program) (extra : Program) (script : Script)
    (limit : ℕ) where
  abbrev program_more : Program
  program_more = with_tables extra program

  abbrev base : Scene
  base = record { program = program; script = script; limit = limit }

  abbrev more : Scene
  more = record { program = program_more; script = script; limit = limit }

  abbrev count : ℕ
  count = length program.objects

  abbrev states : ℕ
  states = length program.automata

  abbrev behind_objects : List memory.Object
  behind_objects = map first_object extra.objects

  abbrev behind_states : List (Option ℕ)
  behind_states = replicate (length extra.automata) None

  abbrev besides : Memory → Memory
  besides m = beside count states behind_objects behind_states m

  abbrev Good : Memory → Type 0
  Good m = Fits count states behind_objects behind_states m

  abbrev KeptHere : Option Memory → Option Memory → Type 0
  KeptHere o p = Kept count states behind_objects behind_states o p

  abbrev alongside : World → World
  alongside w = record w { memory = besides w.memory }

  -- ---- values

  abbrev Free : {A : Type 0} → A → Type 0
  Free a = Unit {0}

  abbrev IsPart : Reference → Type 0
  IsPart r = NameFits count states behind_objects behind_states r.object

  abbrev IsPlace : Place → Type 0
  IsPlace at = PlaceFits count states behind_objects behind_states at

  abbrev IsHeld : Held → Type 0
  IsHeld held = HeldFits count states behind_objects behind_states held

  abbrev AreHeld : List Held → Type 0
  AreHeld held = AllHeldFit count states behind_objects behind_states held

  -- ---- runs that do the same

  -- what a run gives is also what the other gives, beside more
  abbrev Rel : {A : Type 0} → (A → Type 0) → Outcome A → Outcome A → Type 0
  Rel In (Gives a x) r = (r ≡ Gives a (alongside x)) × In a × Good x.memory
  Rel In (Stops e x) r = r ≡ Stops e (alongside x)
  Rel In (More x) r = r ≡ More (alongside x)

  record Same {A : Type 0} (In : A → Type 0) (c d : Run A) : Type 0 where
    at : (w : World) → Good w.memory → Rel In (c w) (d (alongside w))

  rel_after : {A B : Type 0} (In : A → Type 0) (Out : B → Type 0) (o r : Outcome A)
      (go go' : A → Run B) → Rel In o r → ((a : A) → In a → Same Out (go a) (go' a))
      → Rel Out (then_do o go) (then_do r go')
  rel_after In Out (Gives a x) r go go' b rest =
      subst (λ q. Rel Out (go a x) (then_do q go')) (sym b.0) ((rest a b.1).at x b.2)
  rel_after In Out (Stops e x) r go go' b rest =
      subst (λ q. then_do q go' ≡ Stops e (alongside x)) (sym b) refl
  rel_after In Out (More x) r go go' b rest =
      subst (λ q. then_do q go' ≡ More (alongside x)) (sym b) refl

  after_same : {A B : Type 0} {In : A → Type 0} {Out : B → Type 0} {c d : Run A}
      {go go' : A → Run B} → Same In c d → ((a : A) → In a → Same Out (go a) (go' a))
      → Same Out (c >>= go) (d >>= go')
  after_same {In = In} {Out = Out} {c = c} {d = d} {go = go} {go' = go'} first rest = record {
    at = λ w h. rel_after In Out (c w) (d (alongside w)) go go' (first.at w h) rest;
  }

  give_same : {A : Type 0} {In : A → Type 0} (a : A) → In a → Same In (give a) (give a)
  give_same a i = record { at = λ w h. (refl, i, h) }

  free : {A : Type 0} (a : A) → Same {A = A} Free (give a) (give a)
  free a = give_same a tt

  stop_same : {A : Type 0} {In : A → Type 0} (e : End) → Same {A = A} In (stop e) (stop e)
  stop_same e = record { at = λ w h. refl }

  or_stop_same : {A : Type 0} (o : Option A) (e : End)
      → Same {A = A} Free (or_stop o e) (or_stop o e)
  or_stop_same None e = stop_same e
  or_stop_same (Some a) e = free a

  looked : {A : Type 0} (In : A → Type 0) (o p : Option A) → p ≡ o → IfSome o In → (w : World)
      → Good w.memory → Rel In (or_stop o end.Stray w) (or_stop p end.Stray (alongside w))
  looked In None p e i w h =
      subst (λ q. or_stop q end.Stray (alongside w) ≡ Stops end.Stray (alongside w)) (sym e) refl
  looked In (Some a) p e i w h =
      subst (λ q. Rel In (Gives a w) (or_stop q end.Stray (alongside w))) (sym e) (refl, i, h)

  look_same : {A : Type 0} {In : A → Type 0} (f : Memory → Option A)
      → ((m : Memory) → Good m → (f (besides m) ≡ f m) × IfSome (f m) In)
      → Same In (look f) (look f)
  look_same {In = In} f facts = record {
    at = λ w h.
        let it = facts w.memory h in
        looked In (f w.memory) (f (besides w.memory)) it.0 it.1 w h;
  }

  changes : (o p : Option Memory) → KeptHere o p → (w : World)
      → Rel {A = Done} Free (changed o w) (changed p (alongside w))
  changes None p e w =
      subst (λ q. changed q (alongside w) ≡ Stops end.Stray (alongside w)) (sym e) refl
  changes (Some m) p e w =
      subst (λ q. Rel {A = Done} Free (changed (Some m) w) (changed q (alongside w))) (sym e.0)
      (refl, tt, e.1)

  change_same : (f : Memory → Option Memory)
      → ((m : Memory) → Good m → KeptHere (f m) (f (besides m)))
      → Same {A = Done} Free (change f) (change f)
  change_same f facts = record {
    at = λ w h. changes (f w.memory) (f (besides w.memory)) (facts w.memory h) w;
  }

  turned : (b : Bool) (w : World) → Good w.memory
      → Rel {A = Done} Free (if b then Gives done (record w { turns = w.turns + 1 }) else More w)
      (if b then Gives done (record (alongside w) { turns = w.turns + 1 }) else More (alongside w))
  turned true w h = (refl, tt, h)
  turned false w h = refl

  turn_same : Same {A = Done} Free (turn limit) (turn limit)
  turn_same = record { at = λ w h. turned (nat_lt w.turns limit) w h }

  say_same : (it : Event) → Same {A = Done} Free (say it) (say it)
  say_same it = record { at = λ w h. (refl, tt, h) }

  enter_frame : (frame : Frame) → SlotsFit count states behind_objects behind_states frame.slots
      → Same {A = Done} Free (enter frame) (enter frame)
  enter_frame frame f = record {
    at = λ w h. (
      refl,
      tt,
      refit count states behind_objects behind_states w.memory (frame ∷ w.memory.frames)
          (f, h.frames_fit) h,
    );
  }

  but_first_fits : (frames : List Frame)
      → FramesFit count states behind_objects behind_states frames
      → FramesFit count states behind_objects behind_states (but_first frames)
  but_first_fits [] f = tt
  but_first_fits (frame ∷ frames) f = f.1

  leave_same : Same {A = Done} Free leave leave
  leave_same = record {
    at = λ w h. (
      refl,
      tt,
      refit count states behind_objects behind_states w.memory (but_first w.memory.frames)
          (but_first_fits w.memory.frames h.frames_fit) h,
    );
  }

  framed_same : {A : Type 0} (frame : Frame)
      → SlotsFit count states behind_objects behind_states frame.slots
      → {c d : Run A} → Same Free c d → Same Free (with_frame frame c) (with_frame frame d)
  framed_same frame f s =
      after_same (enter_frame frame f)
      (λ _ i. after_same s (λ a j. after_same leave_same (λ _ k. free a)))

  heap_same : {A : Type 0} {c d : Run A} → Same Free c d → Same Free (with_heap c) (with_heap d)
  heap_same s =
      after_same (look_same {In = Free} (λ m. Some (length m.heap)) (λ m h. (refl, tt)))
      (λ n i. after_same s (λ a j. after_same
      (change_same (λ m. Some (cut_heap n m))
      (λ m h. cut_kept count states behind_objects behind_states n m h)) (λ _ k. free a)))

  choose_same : {A : Type 0} {In : A → Type 0} (b : Bool) {c d c' d' : Run A} → Same In c d
      → Same In c' d' → Same In (choose b c c') (choose b d d')
  choose_same true first second = first
  choose_same false first second = second

  pass_same : (way : Way) {c d : Run Way} → Same Free c d → Same Free (pass way c) (pass way d)
  pass_same Through s = s
  pass_same Broke s = free Broke
  pass_same Continued s = free Continued
  pass_same (Returned v) s = free (Returned v)

  again_same : (way : Way) {c d : Run Way} → Same Free c d → Same Free (again way c) (again way d)
  again_same Through s = s
  again_same Broke s = free Through
  again_same Continued s = s
  again_same (Returned v) s = free (Returned v)

  -- ---- the steps of nodes

  read_at : (at : Place) → IsPlace at → Same {A = ℤ} Free (look (read at)) (look (read at))
  read_at at f =
      look_same {In = Free} (read at)
      (λ m h. (read_same count states behind_objects behind_states at m f h, free_some (read at m)))
    where
      free_some : (o : Option ℤ) → IfSome o (λ v. Unit {0})
      free_some None = tt
      free_some (Some v) = tt

  write_at : (at : Place) (v : ℤ) → IsPlace at
      → Same {A = Done} Free (change (write at v)) (change (write at v))
  write_at at v f =
      change_same (write at v)
      (λ m h. write_kept count states behind_objects behind_states at v m f h)

  stored : {A : Type 0} (at : Place) (v : ℤ) (a : A) → IsPlace at
      → Same {A = A} Free (change (write at v) >>= (λ _. give a))
      (change (write at v) >>= (λ _. give a))
  stored at v a f = after_same (write_at at v f) (λ _ i. free a)

  whole_part : (name : Name) → NameFits count states behind_objects behind_states name
      → Same IsPart (look (whole_of name)) (look (whole_of name))
  whole_part name f =
      look_same (whole_of name)
      (λ m h. whole_fits count states behind_objects behind_states name m f h)

  own_part : (s : ℕ) → Same IsPart (look (own_whole s)) (look (own_whole s))
  own_part s =
      look_same (own_whole s)
      (λ m h. whole_fits count states behind_objects behind_states (memory.Local (running m) s) m tt h)

  through_part : (s : ℕ) → Same IsPart (look (through s)) (look (through s))
  through_part s =
      look_same (through s)
      (λ m h. through_fits count states behind_objects behind_states s m h)

  refers_same : (at : Place) → IsPlace at → Same IsHeld (refers at) (refers at)
  refers_same (memory.Cell name i) f = give_same (Refers (to_cell name i)) f
  refers_same (memory.Character name i k) f = stop_same end.Stray

  made_same : (s : ℕ) (object : memory.Object)
      → Same {A = Done} Free (change (made s object)) (change (made s object))
  made_same s object =
      change_same (made s object)
      (λ m h. made_kept count states behind_objects behind_states s object m h)

  -- an object that a node names is there
  object_in : (o : ℕ) (it : Option StaticObject) → slice_get program.objects o ≡ it
      → IsSome (object_extent it) → o < count
  object_in o None e h = absurd (cc h)
  object_in o (Some object) e h = slice_get_within program.objects o object e

  cell_in : (o : ℕ) (it : Option StaticObject) → slice_get program.objects o ≡ it
      → IsCellObject it → o < count
  cell_in o None e h = absurd h
  cell_in o (Some object) e h = slice_get_within program.objects o object e

  free_object : (o : Option memory.Object) → IfSome o (λ it. Unit {0})
  free_object None = tt
  free_object (Some it) = tt

  -- ---- frames

  unmade_fit : (n : ℕ) → SlotsFit count states behind_objects behind_states (replicate n Unmade)
  unmade_fit zero = tt
  unmade_fit (suc n) = (tt, unmade_fit n)

  frame_fit : (held : List Held) (n : ℕ) → AreHeld held
      → SlotsFit count states behind_objects behind_states
      (map held_in_slot held ++ replicate n Unmade)
  frame_fit [] n f = unmade_fit n
  frame_fit (Value v ∷ held) n f = (tt, frame_fit held n f.1)
  frame_fit (Refers r ∷ held) n f = (f.0, frame_fit held n f.1)

  -- valid statements with one turn less do the same
  abbrev Again : Fewer → Fewer → Type 0
  Again fewer fewer' = (slots : List Slot) (params : ℕ) (made : List ℕ) (in_loop in_list : Bool)
      (s : Stmt) → IsValidStmt (scope program slots params made) in_loop in_list s
      → Same Free (fewer s) (fewer' s)

  -- ---- bodies

  -- the same body serves the state
  body_same_by : (function : Function) (dispatch : Option Route) (m : Memory)
      → IfSome dispatch (IsValidRoute program (length function.bodies)) → Good m
      → body_by function dispatch (besides m) ≡ body_by function dispatch m
  body_same_by function None m f h = refl
  body_same_by function (Some route) m f h =
      let within : route.automaton < states =
      slice_get_within program.automata route.automaton f.automaton f.there in
      let same = h.states_count in
      ap (λ o. body_at function (routed route o))
      (front_get m.states behind_states route.automaton (omega (arith, within, same)))

  module _ (fewer fewer' : Fewer) (behind : Again fewer fewer') where
    body_same : (params : List Slot) (o : Option Body) → IfSome o (IsValidBody program params)
        → Same {A = ℤ} Free (run_body fewer o) (run_body fewer' o)
    body_same params None h = record { at = λ w g. refl }
    body_same params (Some body) h =
        let s =
        after_same (behind body.slots (length params) [] false false body.stmt h.stmt)
        (λ way i. free (value_of way)) in
        record { at = λ w g. s.at w g }

    enter_same : (f : ℕ) (function : Function) (held : List Held)
        → IsValidFunction program function → AreHeld held
        → Same {A = ℤ} Free (enter_function fewer f function held)
        (enter_function fewer' f function held)
    enter_same f function held it fits = record {
      at = λ w h.
          let body = body_by function function.dispatch w.memory in
          let P : Option Body → Type 0 = λ b.
          Rel {A = ℤ} Free (with_frame (frame_of f function held body) (run_body fewer body) w)
          (with_frame (frame_of f function held b) (run_body fewer' b) (alongside w)) in
          subst P (sym (body_same_by function function.dispatch w.memory it.routed h))
          ((framed_same (frame_of f function held body)
          (frame_fit held (slots_of body - length held) fits)
          (body_same function.params body
          (valid_body program function function.params function.dispatch w.memory it.bodies))).at w h);
    }

    -- ---- calls

    found_same : (f : ℕ) (held : List Held) → AreHeld held → (o : Option Function)
        → IfSome o (IsValidFunction program) → (w : World) → Good w.memory
        → Rel {A = ℤ} Free (then_do (or_stop o end.Stray w)
        (λ function. turn limit >>= (λ _. enter_function fewer f function held)))
        (then_do (or_stop o end.Stray (alongside w))
        (λ function. turn limit >>= (λ _. enter_function fewer' f function held)))
    found_same f held fits None i w h = refl
    found_same f held fits (Some function) i w h =
        (after_same turn_same (λ _ j. enter_same f function held i fits)).at w h

    call_same : {params : List Slot} (f : ℕ) (held : List Held) → AreHeld held
        → Takes program f params
        → Same {A = ℤ} Free (call base fewer f held) (call more fewer' f held)
    call_same f held fits it =
        let there : slice_get (program.functions ++ extra.functions) f
        ≡ slice_get program.functions f =
        there_too program.functions extra.functions f it.function it.there ∙ sym it.there in
        record {
          at = λ w h.
              subst (λ o. Rel {A = ℤ} Free (call base fewer f held w)
              (then_do (or_stop o end.Stray (alongside w))
              (λ function. turn limit >>= (λ _. enter_function fewer' f function held))))
              (sym there)
              (found_same f held fits (slice_get program.functions f)
              (if_there (IsValidFunction program) program.functions f valid.functions
              (slice_get program.functions f) refl) w h);
        }

    one_same : (f : ℕ) (v : ℤ) {params : List Slot} → Takes program f params
        → Same {A = ℤ} Free (call_one base fewer f v) (call_one more fewer' f v)
    one_same f v it = call_same f (Value v ∷ []) (tt, tt) it

    two_same : (f : ℕ) (swapped : Bool) (x y : ℤ) {params : List Slot} → Takes program f params
        → Same {A = ℤ} Free (call_two base fewer f swapped x y) (call_two more fewer' f swapped x y)
    two_same f true x y it = call_same f (Value y ∷ Value x ∷ []) (tt, (tt, tt)) it
    two_same f false x y it = call_same f (Value x ∷ Value y ∷ []) (tt, (tt, tt)) it

    finished_same : (it : Event) (result : ℤ) (position : ℕ) (o p : Option Memory)
        → KeptHere o p → (w : World)
        → Rel {A = ℤ} Free (finished it result position o w)
        (finished it result position p (alongside w))
    finished_same it result position None p e w =
        subst (λ q. finished it result position q (alongside w) ≡ Stops end.Stray (alongside w))
        (sym e) refl
    finished_same it result position (Some m) p e w =
        subst (λ q. Rel {A = ℤ} Free (finished it result position (Some m) w)
        (finished it result position q (alongside w))) (sym e.0) (refl, tt, e.1)

    called_same : (called : Called Spot)
        → CalledFits count states behind_objects behind_states called → (w : World)
        → Good w.memory → Rel {A = ℤ} Free (after_call called w) (after_call called (alongside w))
    called_same (Ends_there trap position) f w h = refl
    called_same (Answers it result position puts) f w h =
        finished_same it result position (with_writes puts (Some w.memory))
        (with_writes puts (Some (besides w.memory)))
        (writes_kept count states behind_objects behind_states puts (Some w.memory)
        (Some (besides w.memory)) f (refl, h)) w

    named_same : (name : List ℕ) (held : List Held) → AreHeld held
        → Same {A = ℤ} Free (call_native script name held) (call_native script name held)
    named_same name held fits = record {
      at = λ w h.
          subst (λ c. Rel {A = ℤ} Free (call_native script name held w)
          (after_call c (alongside w)))
          (sym (native_seen count states behind_objects behind_states script w.memory name held
          w.position fits h))
          (called_same (native_call script (see w.memory) name held w.position)
          (native_fits count states behind_objects behind_states script w.memory name held
          w.position fits) w h);
    }

    native_same : (n : ℕ) (held : List Held) → AreHeld held → n < length program.natives
        → Same {A = ℤ} Free (call_native script (name_of base.program n) held)
        (call_native script (name_of more.program n) held)
    native_same n held fits h =
        let e : name_of more.program n ≡ name_of base.program n =
        unwrap_or-slice_get (program.natives ++ extra.natives) n []
        ∙ get_or_append_left program.natives extra.natives [] n h
        ∙ sym (unwrap_or-slice_get program.natives n []) in
        subst (λ name. Same {A = ℤ} Free (call_native script (name_of base.program n) held)
        (call_native script name held)) (sym e) (named_same (name_of base.program n) held fits)

    chosen_same : (f : ℕ) → Takes program f [] → (b : Bool)
        → Same Free (call_entry base fewer (if b then Some f else None))
        (call_entry more fewer' (if b then Some f else None))
    chosen_same f it true = after_same (call_same f [] tt it) (λ _ i. free Through)
    chosen_same f it false = free Through

    entry_same : (automaton state : ℕ) (o : Option ℕ) → IfSome o (λ f. Takes program f [])
        → Same Free (call_entry base fewer (entry_for base.program automaton state o))
        (call_entry more fewer' (entry_for more.program automaton state o))
    entry_same automaton state None h = free Through
    entry_same automaton state (Some f) h =
        let there : slice_get program.functions f
        ≡ slice_get (program.functions ++ extra.functions) f =
        h.there ∙ sym (there_too program.functions extra.functions f h.function h.there) in
        subst (λ o. Same Free (call_entry base fewer (entry_for base.program automaton state (Some f)))
        (call_entry more fewer' (if serves o automaton state then Some f else None))) there
        (chosen_same f h (serves (slice_get program.functions f) automaton state))

    -- ---- nodes

    module _ (slots : List Slot) (params : ℕ) where
      abbrev here : List ℕ → Scope
      here made = scope program slots params made

      converted_same : (made : List ℕ) (convert : Option ℕ) (v : ℤ)
          → IfSome convert (IsOperator (here made) 1)
          → Same {A = ℤ} Free (converted base fewer convert v) (converted more fewer' convert v)
      converted_same made None v h = free v
      converted_same made (Some f) v h = one_same f v h

      linked_same : (made : List ℕ) (op : Comparison) (f : Option ℕ) (swapped : Bool) (x y : ℤ)
          → IfSome f (IsOperator (here made) 2)
          → Same {A = ℤ} Free (linked base fewer op f swapped x y)
          (linked more fewer' op f swapped x y)
      linked_same made op None swapped x y h = free (truth (compare op x y))
      linked_same made op (Some f) swapped x y h = two_same f swapped x y h

      module _ (made : List ℕ) where
        mutual
          place_same : (p : Scalar) → IsValidScalar (here made) p
              → Same IsPlace (place base fewer p) (place more fewer' p)
          place_same (Global o) h =
              give_same (memory.Cell (Static o) 0)
              (cell_in o (slice_get program.objects o) refl h)
          place_same (Own s) h =
              look_same (λ m. Some (memory.Cell (memory.Local (running m) s) 0)) (λ m g. (refl, tt))
          place_same (node.Through s) h =
              after_same (through_part s) (λ r i. give_same (cell_at r 0) i)
          place_same (Element a e) h =
              after_same (array_same a h.1) (λ r i. after_same (value_same e h.2)
              (λ v j. after_same (or_stop_same (index_in (first_size r.sizes) v) (outside (is_known a)))
              (λ n k. give_same (cell_at r n) i)))
          place_same (Char a e) h =
              after_same (array_same a h.1) (λ r i. after_same (value_same e h.2)
              (λ v j. after_same
              (or_stop_same (index_in (4 * first_size r.sizes) v) (outside (is_known a)))
              (λ n k. give_same (character_at r n) i)))

          array_same : (a : Array) → IsValidArray (here made) a
              → Same IsPart (array base fewer a) (array more fewer' a)
          array_same (Object o) h =
              whole_part (Static o) (object_in o (slice_get program.objects o) refl h)
          array_same (SlotArray s) h = own_part s
          array_same (ParamArray s known) h = through_part s
          array_same (Row a e) h =
              after_same (array_same a h.1) (λ r i. after_same (value_same e h.2)
              (λ v j. after_same (or_stop_same (index_in (first_size r.sizes) v) (outside (is_known a)))
              (λ n k. give_same (row_at r n) i)))
          array_same (From a e) h =
              after_same (array_same a h.1) (λ r i. after_same (value_same e h.2)
              (λ v j. after_same (or_stop_same (index_in (first_size r.sizes) v) (outside (is_known a)))
              (λ n k. give_same (rest_from r n) i)))

          value_same : (e : Expr) → IsValidExpr (here made) e
              → Same {A = ℤ} Free (value base fewer e) (value more fewer' e)
          value_same (Const v) h = free v
          value_same (Read p) h = after_same (place_same p h) (λ at i. read_at at i)
          value_same (Unary o e) h = after_same (value_same e h) (λ v i. free (prefix o v))
          value_same (Binary o l r) h =
              after_same (value_same l h.0) (λ x i. after_same (value_same r h.1)
              (λ y j. or_stop_same (binary o x y) (end.Error (pos 11))))
          value_same (Chain e links) h =
              after_same (value_same e h.1) (λ x i. chain_same links x h.2)
          value_same (And l r) h =
              after_same (value_same l h.0) (λ x i. choose_same (is_zero x) (free (pos 0))
              (after_same (value_same r h.1) (λ y j. free (logical logic.And x y))))
          value_same (Or l r) h =
              after_same (value_same l h.0) (λ x i. choose_same (is_zero x)
              (after_same (value_same r h.1) (λ y j. free (logical logic.Or x y)))
              (free (pos 1)))
          value_same (Cond c a b) h =
              after_same (value_same c h.0)
              (λ x i. choose_same (is_zero x) (value_same b h.2) (value_same a h.1))
          value_same (Assign p e) h =
              after_same (place_same p h.0) (λ at i. after_same (value_same e h.1)
              (λ v j. stored at v v i))
          value_same (Update p o e) h =
              after_same (place_same p h.0) (λ at i. after_same (value_same e h.1)
              (λ y j. after_same (read_at at i)
              (λ x k. after_same (or_stop_same (binary o x y) (end.Error (pos 11)))
              (λ v l. stored at v v i))))
          value_same (UpdateBy p f swapped e convert) h =
              after_same (place_same p h.2) (λ at i. after_same (value_same e h.3)
              (λ y j. after_same (read_at at i)
              (λ x k. after_same (two_same f swapped x y h.0)
              (λ u l. after_same (converted_same made convert u h.1)
              (λ v n. stored at v v i)))))
          value_same (Step p delta prefix) h =
              after_same (place_same p h.1) (λ at i. after_same (read_at at i)
              (λ x j. stored at (add x delta) (if prefix then add x delta else x) i))
          value_same (StepBy p f prefix) h =
              after_same (place_same p h.1) (λ at i. after_same (read_at at i)
              (λ x j. after_same (one_same f x h.0)
              (λ v k. stored at v (if prefix then v else x) i)))
          value_same (Copy to from cells) h =
              after_same (array_same to h.2) (λ r i. after_same (array_same from h.3)
              (λ q j. after_same (change_same (copied r q cells)
              (λ m g. copied_kept count states behind_objects behind_states r q cells m i j g))
              (λ _ k. free (pos 0))))
          value_same (Operate f l r swapped) h =
              after_same (value_same l h.1) (λ x i. after_same (value_same r h.2)
              (λ y j. two_same f swapped x y h.0))
          value_same (OperateOne f e) h =
              after_same (value_same e h.1) (λ v i. one_same f v h.0)
          value_same (Call f args) h =
              heap_same (after_same (arguments_same args h.3)
              (λ held i. call_same f held i h.1))
          value_same (Native n args) h =
              heap_same (after_same (arguments_same args h.1) (λ held i. native_same n held i h.0))
          value_same (Seq a b) h = after_same (value_same a h.0) (λ _ i. value_same b h.1)

          chain_same : (links : Links) (x : ℤ) → AreValidLinks (here made) links
              → Same {A = ℤ} Free (chain base fewer links x) (chain more fewer' links x)
          chain_same no_links x h = free x
          chain_same (then_link o e f swapped links) x h =
              after_same (value_same e h.1) (λ y i. after_same (linked_same made o f swapped x y h.0)
              (λ v j. after_same (chained_same links y v h.2)
              (λ u k. free (ended links u))))

          chained_same : (links : Links) (x v : ℤ) → AreValidLinks (here made) links
              → Same {A = ℤ} Free (chained base fewer links x v) (chained more fewer' links x v)
          chained_same no_links x v h = free v
          chained_same (then_link o e f swapped links) x v h =
              choose_same (is_zero v) (free (pos 0))
              (after_same (value_same e h.1) (λ y i. after_same (linked_same made o f swapped x y h.0)
              (λ u j. chained_same links y u h.2)))

          argument_same : (a : Arg) → IsValidArg (here made) a
              → Same IsHeld (argument base fewer a) (argument more fewer' a)
          argument_same (node.Value e) h =
              after_same (value_same e h) (λ v i. give_same (Value v) tt)
          argument_same (Ref p) h = after_same (place_same p h.1) (λ at i. refers_same at i)
          argument_same (Whole a) h = after_same (array_same a h) (λ r i. give_same (Refers r) i)
          argument_same (Temp e) h =
              after_same (value_same e h) (λ v i. after_same
              (look_same {In = Free} (λ m. Some (length m.heap)) (λ m g. (refl, tt)))
              (λ n j. after_same (change_same (λ m. Some (with_temporary v m))
              (λ m g. temporary_kept count states behind_objects behind_states v m g))
              (λ _ k. give_same (Refers (to_cell (memory.Temporary n) 0)) tt)))

          arguments_same : (args : Args) → AreValidArgs (here made) args
              → Same AreHeld (arguments base fewer args) (arguments more fewer' args)
          arguments_same no_args h = give_same [] tt
          arguments_same (then_arg a args) h =
              after_same (arguments_same args h.1) (λ others i. after_same (argument_same a h.0)
              (λ first j. give_same (first ∷ others) (j, i)))

        condition_same : (c : Perhaps) → IsValidPerhaps (here made) c
            → Same {A = ℤ} Free (condition base fewer c) (condition more fewer' c)
        condition_same Absent h = free (pos 1)
        condition_same (Present e) h = value_same e h

        perhaps_same : (c : Perhaps) → IsValidPerhaps (here made) c
            → Same {A = Done} Free (perhaps base fewer c) (perhaps more fewer' c)
        perhaps_same Absent h = free done
        perhaps_same (Present e) h = after_same (value_same e h) (λ _ i. free done)

      mutual
        run_same : (made : List ℕ) (in_loop in_list : Bool) (s : Stmt)
            → IsValidStmt (here made) in_loop in_list s
            → Same Free (run base fewer s) (run more fewer' s)
        run_same made in_loop in_list (Block stmts) h = run_all_same made in_loop stmts h
        run_same made in_loop in_list (Local s e) h =
            after_same (value_same made e h.3)
            (λ v i. after_same (made_same s (one_cell v)) (λ _ k. free Through))
        run_same made in_loop in_list (LocalArray s o) h =
            after_same (look_same {In = Free} (λ m. object_at m (Static o))
            (λ m g. (
              object_same count states behind_objects behind_states (Static o) m
                  (slice_get_within program.objects o h.1.object h.1.there) g,
              free_object (object_at m (Static o)),
            )))
            (λ object j. after_same (made_same s object) (λ _ k. free Through))
        run_same made in_loop in_list (Do e) h =
            after_same (value_same made e h) (λ _ k. free Through)
        run_same made in_loop in_list (If c a b) h =
            after_same (value_same made c h.0)
            (λ v i. choose_same (is_zero v) (run_else_same made in_loop b h.2)
            (run_same made in_loop false a h.1))
        run_same made in_loop in_list (While c s) h =
            after_same (value_same made c h.0) (λ v i. choose_same (is_zero v)
            (free Through) (after_same turn_same
            (λ _ k. after_same (run_same made true false s h.1)
            (λ way j. again_same way (behind slots params made in_loop in_list (While c s) h)))))
        run_same made in_loop in_list (DoWhile s c) h =
            after_same turn_same (λ _ k. after_same (run_same made true false s h.0)
            (λ way j. again_same way (after_same (value_same made c h.1)
            (λ v i. choose_same (is_zero v) (free Through)
            (behind slots params made in_loop in_list (DoWhile s c) h)))))
        run_same made in_loop in_list (For first c step s) h =
            let inner = made ++ slots_made_by first in
            after_same (run_all_same made in_loop first h.0) (λ way j. pass_same way
            (after_same (condition_same inner c h.1) (λ v i. choose_same (is_zero v)
            (free Through) (after_same turn_same
            (λ _ k. after_same (run_same inner true false s h.3)
            (λ way j. again_same way (after_same (perhaps_same inner step h.2)
            (λ _ k. behind slots params inner in_loop in_list (For no_stmts c step s)
            (next_pass program slots params inner in_loop in_list c step s h.1 h.2 h.3)))))))))
        run_same made in_loop in_list (Switch e cases d) h =
            after_same (value_same made e h.0)
            (λ v i. run_case_same made in_loop cases (run_else_same made in_loop d h.2) v h.1)
        run_same made in_loop in_list (Return e) h =
            after_same (value_same made e h) (λ v i. free (Returned v))
        run_same made in_loop in_list Break h = free Broke
        run_same made in_loop in_list Continue h = free Continued
        run_same made in_loop in_list (Exit e tag) h =
            after_same (value_same made e h.0) (λ v i. stop_same (end.Exit v (cell_of tag)))
        run_same made in_loop in_list (Sleep e tag) h =
            after_same (value_same made e h.0)
            (λ v i. after_same (say_same (event.Slept v (cell_of tag))) (λ _ k. free Through))
        run_same made in_loop in_list (Assert e) h =
            after_same (value_same made e h)
            (λ v i. choose_same (is_zero v) (stop_same (end.Error (pos 2))) (free Through))
        run_same made in_loop in_list (State automaton state c) h =
            after_same (condition_same made c h.1) (λ v i. choose_same (is_zero v)
            (free Through) (after_same (change_same (switched automaton state)
            (λ m g. switched_kept count states behind_objects behind_states automaton state m
            (slice_get_within program.automata automaton h.0.it h.0.there) g))
            (λ _ k. subst (λ o. Same Free (call_entry base fewer
            (entry_for base.program automaton state
            (enter_of (slice_get program.automata automaton))))
            (call_entry more fewer' (entry_for more.program automaton state (enter_of o))))
            (h.0.there
            ∙ sym (there_too program.automata extra.automata automaton h.0.it h.0.there))
            (entry_same automaton state (enter_of (slice_get program.automata automaton))
            (subst (λ o. IfSome (enter_of o) (λ f. Takes program f [])) (sym h.0.there)
            (if_there (IsValidAutomaton program) program.automata automaton valid.automata
            (Some h.0.it) h.0.there))))))
        run_same made in_loop in_list Empty h = free Through

        run_else_same : (made : List ℕ) (in_loop : Bool) (b : Else)
            → IsValidElse (here made) in_loop b
            → Same Free (run_else base fewer b) (run_else more fewer' b)
        run_else_same made in_loop no_else h = free Through
        run_else_same made in_loop (otherwise s) h = run_same made in_loop false s h

        run_case_same : (made : List ℕ) (in_loop : Bool) (cases : Cases) {d d' : Run Way}
            → Same Free d d' → (v : ℤ) → AreValidCases (here made) in_loop cases
            → Same Free (run_case base fewer cases d v) (run_case more fewer' cases d' v)
        run_case_same made in_loop no_cases s v h = s
        run_case_same made in_loop (then_case ranges s cases) other v h =
            choose_same (in_ranges ranges v) (run_same made in_loop false s h.1)
            (run_case_same made in_loop cases other v h.2)

        run_all_same : (made : List ℕ) (in_loop : Bool) (stmts : Stmts)
            → AreValidStmts (here made) in_loop stmts
            → Same Free (run_all base fewer stmts) (run_all more fewer' stmts)
        run_all_same made in_loop no_stmts h = free Through
        run_all_same made in_loop (then_stmt s stmts) h =
            after_same (run_same made in_loop true s h.0)
            (λ way j. pass_same way (run_all_same (made ++ slots_made s) in_loop stmts h.1))

  -- ---- the whole

  nested_same : (turns : ℕ) → Again (nested base turns) (nested more turns)
  nested_same zero slots params made in_loop in_list s h = record { at = λ w g. refl }
  nested_same (suc turns) slots params made in_loop in_list s h =
      run_same (nested base turns) (nested more turns) (nested_same turns) slots params made in_loop
      in_list s h

  runs_same : Again (run base (nested base limit)) (run more (nested more limit))
  runs_same slots params made in_loop in_list s h =
      run_same (nested base limit) (nested more limit) (nested_same limit) slots params made in_loop
      in_list s h

  params_same : (f : ℕ) (function : Function) → IsValidFunction program function
      → (params : List Slot)
      → Same {A = ⊥} Free (without_params base f function params)
      (without_params more f function params)
  params_same f function it [] =
      after_same (enter_same (run base (nested base limit)) (run more (nested more limit)) runs_same
      f function [] it tt) (λ v i. stop_same (end.Done v))
  params_same f function it (param ∷ params) = stop_same end.Stray

  from_same : (f : ℕ) (o : Option Function) → IfSome o (IsValidFunction program)
      → Same {A = ⊥} Free (entry_or_stray base f o) (entry_or_stray more f o)
  from_same f None h = stop_same end.Stray
  from_same f (Some function) h = params_same f function h function.params

  there_by : (f : ℕ) (o : Option Function) → slice_get program.functions f ≡ o
      → f < length program.functions → slice_get (program.functions ++ extra.functions) f ≡ o
  there_by f None e h = absurd (past_none program.functions f h e)
  there_by f (Some function) e h =
      there_too program.functions extra.functions f function e

  -- both begin alike
  first_same : first_world program_more ≡ alongside (first_world program)
  first_same =
      let with_objects : List memory.Object → List (Option ℕ) → World = λ objects states.
      record (first_world program) {
        memory = record (first_memory program) { objects = objects; states = states };
      } in
      let states_all : replicate (length (program.automata ++ extra.automata)) None
      ≡ replicate (length program.automata) None
      ++ replicate (length extra.automata) None =
      ap (λ n. replicate n None) (length-append program.automata extra.automata)
      ∙ sym (replicate-append-replicate (length program.automata) (length extra.automata) None) in
      ap (λ l. with_objects l (replicate (length (program.automata ++ extra.automata)) None))
      (map-append first_object program.objects extra.objects)
      ∙ ap (λ l. with_objects (map first_object program.objects ++ behind_objects) l) states_all

  first_good : Good (first_memory program)
  first_good = record {
    objects_count = length-map program.objects first_object;
    states_count = length-replicate states None;
    frames_fit = tt;
  }

  told_same : (o r : Outcome ⊥) → Rel {A = ⊥} Free o r → told_of r ≡ told_of o
  told_same (Gives a x) r e = elim a [ ]
  told_same (Stops e x) r same = ap told_of same
  told_same (More x) r same = ap told_of same

  pub meaning_same : (f : ℕ) → f < length program.functions
      → told_of (whole more f) ≡ told_of (whole base f)
  meaning_same f h =
      let o = slice_get program.functions f in
      let P : World → Type 0 = λ w.
      Rel {A = ⊥} Free (whole base f) (entry_or_stray more f o w) in
      told_same (whole base f) (whole more f)
      (subst (λ (q : Option Function). Rel {A = ⊥} Free (whole base f)
      (entry_or_stray more f q (first_world program_more))) (sym (there_by f o refl h))
      (subst P (sym first_same)
      ((from_same f o
      (if_there (IsValidFunction program) program.functions f valid.functions o refl)).at
      (first_world program) first_good)))

pub numbers_are_in_range_lem : NumbersAreInRange
numbers_are_in_range_lem program valid extra script f limit h =
    meaning_same program valid extra script limit f h

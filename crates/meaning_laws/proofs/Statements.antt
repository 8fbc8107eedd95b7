-- Statements find what they ask for: one line a statement.
use Rattle.std.proofs.Common.{◌≡◌, ◌∙◌, ◌++◌, ◌≤◌, ℕ, ℤ, pos}
use Rattle.std.proofs.Common.{List, []}
use Rattle.std.proofs.Common.{◌∷◌, Bool, true, false, Some, IfSome}
use Rattle.std.proofs.Common.{slice_get}
use Rattle.std.proofs.Common.{refl, sym, ap, subst}
use Rattle.std.proofs.Common.{append-nil}
use Rattle.std.specs.Prelude.{option_map, slice_set}
use Rattle.std.proofs.Common.{append_assoc}
use Rattle.std.proofs.lemmas.Option.{slice_get_within, slice_get-map}
use Rattle.host_script.specs.declared.event.End.TheVariants as end
use Rattle.host_script.specs.declared.event.Event.TheVariants as event
use Rattle.pawn_cells.specs.Cells.{cell_of, is_zero}
use Rattle.pawn_meaning.specs.Program.{Stmt, Block, Local}
use Rattle.pawn_meaning.specs.Program.{LocalArray, Do, If, While, DoWhile, For, Switch, Return}
use Rattle.pawn_meaning.specs.Program.{Break, Continue, Exit, Sleep, Assert, State, Empty, Else}
use Rattle.pawn_meaning.specs.Program.{no_else, otherwise, Cases, no_cases, then_case, Stmts}
use Rattle.pawn_meaning.specs.Program.{no_stmts, then_stmt, Slot, Automaton}
use Rattle.pawn_meaning.specs.Program.{Program}
use Rattle.pawn_meaning.specs.Program.{ScalarSlot, ArraySlot}
use Rattle.pawn_meaning.specs.Memory as memory
use Rattle.pawn_meaning.specs.Memory.{Memory, Static}
use Rattle.pawn_meaning.specs.Memory.{one_cell}
use Rattle.pawn_meaning.specs.Memory.{made}
use Rattle.pawn_meaning.specs.Memory.{switched, object_at}
use Rattle.pawn_meaning.specs.Run.{Run, ◌>>=◌}
use Rattle.pawn_meaning.specs.Run.{give}
use Rattle.pawn_meaning.specs.Run.{change}
use Rattle.pawn_meaning.specs.Calls.{Way, Through, Broke, Continued, Returned, pass, again}
use Rattle.pawn_meaning.specs.Calls.{enter_of, entry_for}
use Rattle.pawn_meaning.specs.Meaning.{in_ranges}
use Rattle.pawn_meaning.specs.Meaning.{call_entry}
use Rattle.pawn_meaning.specs.Meaning.{run, run_else, run_case, run_all}
use Rattle.pawn_meaning.specs.Scope.{Scope}
use Rattle.pawn_meaning.specs.ValidExprs.{Takes}
use Rattle.pawn_meaning.specs.ValidStmts.{IsValidStmt, IsValidElse, AreValidCases, AreValidStmts}
use Rattle.pawn_meaning.specs.ValidStmts.{slots_made, slots_made_by}
use Rattle.pawn_meaning.specs.Valid.{IsValidAutomaton}
use Rattle.meaning_laws.specs.Missing.{change_or}
use Rattle.meaning_laws.specs.MeaningWith as gone
use Rattle.meaning_laws.proofs.Outlines.{Drawn, Keeps, ObjectIs}
use Rattle.meaning_laws.proofs.Outlines.{Outline}
use Rattle.meaning_laws.proofs.Outlines.{alive}
use Rattle.meaning_laws.proofs.Accesses as found
use Rattle.meaning_laws.proofs.Accesses.{lay}
use Rattle.meaning_laws.proofs.Typings.{LocalFits}
use Rattle.meaning_laws.proofs.Typings.{Here}
use Rattle.meaning_laws.proofs.Typings.{here_weaker}
use Rattle.meaning_laws.proofs.Typings.{within}
use Rattle.meaning_laws.proofs.Typings.{here_made}
use Rattle.meaning_laws.proofs.Outlines.{objects, sizes_of}
use Rattle.meaning_laws.proofs.ValidParts.{if_there, scope, next_pass}
use Rattle.meaning_laws.proofs.CallNodes.{Left, made_by, Setting}
use Rattle.meaning_laws.proofs.CallNodes.{entry_to}
use Rattle.meaning_laws.proofs.Nodes.{value_to, condition_to, perhaps_to}
use Rattle.meaning_laws.proofs.Steps.{AlikeIn, then_on, after, give_on, stop_on, relax}
use Rattle.meaning_laws.proofs.Steps.{choose_on, turn_to, say_to, look_to, change_to}

module _ (set : Setting) (slots : List Slot) (params : ℕ)
    (outer : List (List Drawn)) (heap : List (List ℕ)) where
  abbrev program : Program
  program = set.scene.program

  abbrev here_scope : List ℕ → Scope
  here_scope made = scope program slots params made

  abbrev IsLeft : List ℕ → List ℕ → Outline → Way → Type 0
  IsLeft made new k way = Left program slots params made new outer heap k way

  abbrev IsFrame : List ℕ → List Drawn → Type 0
  IsFrame made current = Here program slots params made current outer heap

  weaker : (made new : List ℕ) (current : List Drawn) → IsFrame (made ++ new) current
      → IsFrame made current
  weaker made new current h =
      here_weaker program slots params made new current outer heap h

  weaker_by : (made new : List ℕ) (current : List Drawn) (way : Way)
      → IsFrame (made_by made new way) current → IsFrame made current
  weaker_by made new current Through h = weaker made new current h
  weaker_by made new current Broke h = h
  weaker_by made new current Continued h = h
  weaker_by made new current (Returned v) h = h

  -- with no slot more
  still : (made : List ℕ) (current : List Drawn) (way : Way) → IsFrame made current
      → IsFrame (made_by made [] way) current
  still made current Through h = subst (λ z. IsFrame z current) (sym (append-nil made)) h
  still made current Broke h = h
  still made current Continued h = h
  still made current (Returned v) h = h

  left_still : (made : List ℕ) (current : List Drawn) (way : Way) → IsFrame made current
      → IsLeft made [] (lay current outer heap) way
  left_still made current way h = (current, refl, still made current way h)

  give_still : (made : List ℕ) (current : List Drawn) (way : Way) → IsFrame made current
      → AlikeIn program (lay current outer heap) (IsLeft made []) (give way) (give way)
  give_still made current way h = give_on way (left_still made current way h)

  -- what a block made is out of force behind it
  forget : (made new : List ℕ) (k : Outline) (way : Way) → IsLeft made new k way
      → IsLeft made [] k way
  forget made new k way h = (
    h.0,
    h.1,
    still made h.0 way (weaker_by made new h.0 way h.2),
  )

  forget_more : (made new more : List ℕ) (k : Outline) (way : Way) → IsLeft (made ++ new) more k way
      → IsLeft made [] k way
  forget_more made new more k way h = (
    h.0,
    h.1,
    still made h.0 way (weaker made new h.0 (weaker_by (made ++ new) more h.0 way h.2)),
  )

  joined_by : (made new more : List ℕ) (current : List Drawn) (way : Way)
      → IsFrame (made_by (made ++ new) more way) current
      → IsFrame (made_by made (new ++ more) way) current
  joined_by made new more current Through h =
      subst (λ z. IsFrame z current) (append_assoc made new more) h
  joined_by made new more current Broke h = weaker made new current h
  joined_by made new more current Continued h = weaker made new current h
  joined_by made new more current (Returned v) h = weaker made new current h

  joined : (made new more : List ℕ) (k : Outline) (way : Way) → IsLeft (made ++ new) more k way
      → IsLeft made (new ++ more) k way
  joined made new more k way h = (h.0, h.1, joined_by made new more h.0 way h.2)

  then_left : {B : Type 0} {l : Outline} {Out : Outline → B → Type 0} (made new : List ℕ)
      {c d : Run Way} {go go' : Way → Run B} → AlikeIn program l (IsLeft made new) c d
      → ((way : Way) (current : List Drawn) → IsFrame (made_by made new way) current
      → AlikeIn program (lay current outer heap) Out (go way) (go' way))
      → AlikeIn program l Out (c >>= go) (d >>= go')
  then_left {Out = Out} made new {go = go} {go' = go'} first rest =
      then_on first (λ k way i. subst (λ z. AlikeIn program z Out (go way) (go' way)) (sym i.1)
      (rest way i.0 i.2))

  pass_left : (made new more : List ℕ) (way : Way) (current : List Drawn)
      → IsFrame (made_by made new way) current → {c d : Run Way}
      → (IsFrame (made ++ new) current
      → AlikeIn program (lay current outer heap) (IsLeft made more) c d)
      → AlikeIn program (lay current outer heap) (IsLeft made more) (pass way c) (pass way d)
  pass_left made new more Through current h s = s h
  pass_left made new more Broke current h s = give_on Broke (current, refl, h)
  pass_left made new more Continued current h s = give_on Continued (current, refl, h)
  pass_left made new more (Returned v) current h s = give_on (Returned v) (current, refl, h)

  again_left : (made : List ℕ) (way : Way) (current : List Drawn) → IsFrame made current
      → {c d : Run Way} → AlikeIn program (lay current outer heap) (IsLeft made []) c d
      → AlikeIn program (lay current outer heap) (IsLeft made []) (again way c) (again way d)
  again_left made Through current h s = s
  again_left made Broke current h s = give_still made current Through h
  again_left made Continued current h s = s
  again_left made (Returned v) current h s = give_still made current (Returned v) h

  -- what gives a way and changes nothing
  passed : (made : List ℕ) (current : List Drawn) → IsFrame made current → (k : Outline) (way : Way)
      → (k ≡ lay current outer heap) × (way ≡ Through) → IsLeft made [] k way
  passed made current h k way e = (current, e.0, still made current way h)

  -- a slot is made
  made_left : (made : List ℕ) (current : List Drawn) → IsFrame made current → (s : ℕ) (kind : Slot)
      (z : List ℕ) → slice_get slots s ≡ Some kind → params ≤ s
      → LocalFits program kind (Keeps z) → (object : memory.Object) → ObjectIs z object
      → AlikeIn program (lay current outer heap) (IsLeft made (s ∷ []))
      (change (memory.made s object) >>= (λ _. give Through))
      (change_or set.missing (memory.made s object) >>= (λ _. give Through))
  made_left made current h s kind z is low fits object it =
      after (change_to set.missing (lay (slice_set current s (Keeps z)) outer heap)
      (memory.made s object)
      (λ m g. found.is_made program current outer heap m s z object g
      (within program slots params made current outer heap h s kind z is low fits) it))
      (λ x i. give_on Through (
        slice_set current s (Keeps z),
        refl,
        here_made program slots params made current outer heap h s kind z is low fits,
      ))

  entered_by : (automaton state : ℕ) (made : List ℕ) (current : List Drawn) → IsFrame made current
      → (it : Automaton) → slice_get program.automata automaton ≡ Some it
      → AlikeIn program (lay current outer heap) (IsLeft made [])
      (call_entry set.scene set.fewer (entry_for program automaton state
      (enter_of (slice_get program.automata automaton))))
      (gone.call_entry set.missing set.scene set.fewer' (entry_for program automaton state
      (enter_of (slice_get program.automata automaton))))
  entered_by automaton state made current h it e =
      relax (entry_to set (lay current outer heap) automaton state
      (enter_of (slice_get program.automata automaton))
      (subst (λ o. IfSome (enter_of o) (λ f. Takes program f [])) (sym e)
      (if_there (IsValidAutomaton program) program.automata automaton set.valid.automata
      (Some it) e))) (passed made current h)

  -- ---- statements

  mutual
    pub run_to : (made : List ℕ) (in_loop in_list : Bool) (s : Stmt)
        → IsValidStmt (here_scope made) in_loop in_list s → (current : List Drawn)
        → IsFrame made current
        → AlikeIn program (lay current outer heap) (IsLeft made (slots_made s))
        (run set.scene set.fewer s) (gone.run set.missing set.scene set.fewer' s)
    run_to made in_loop in_list (Block stmts) h current here =
        relax (run_all_to made in_loop stmts h current here) (forget made (slots_made_by stmts))
    run_to made in_loop in_list (Local s e) h current here =
        after (value_to set slots params made current outer heap here e h.3)
        (λ v i. made_left made current here s ScalarSlot (1 ∷ []) h.2 h.1 refl (one_cell v)
        (refl, refl))
    run_to made in_loop in_list (LocalArray s o) h current here =
        let z = h.1.object.sizes in
        let there : slice_get (objects program) o ≡ Some z =
        slice_get-map (sizes_of) program.objects o ∙ ap (option_map (sizes_of)) h.1.there in
        after (look_to set.missing {In = ObjectIs z} (λ m. object_at m (Static o))
        (λ m g. alive program (lay current outer heap) m (Static o) z g there))
        (λ object i. made_left made current here s (ArraySlot z) z h.1.slot h.1.local refl object i)
    run_to made in_loop in_list (Do e) h current here =
        after (value_to set slots params made current outer heap here e h)
        (λ x i. give_still made current Through here)
    run_to made in_loop in_list (If c a b) h current here =
        after (value_to set slots params made current outer heap here c h.0)
        (λ v i. choose_on (is_zero v) (run_else_to made in_loop b h.2 current here)
        (relax (run_to made in_loop false a h.1 current here) (forget made (slots_made a))))
    run_to made in_loop in_list (While c s) h current here =
        after (value_to set slots params made current outer heap here c h.0)
        (λ v i. choose_on (is_zero v) (give_still made current Through here)
        (after (turn_to set.scene.limit) (λ x k. then_left made (slots_made s)
        (run_to made true false s h.1 current here)
        (λ way next g. let now = weaker_by made (slots_made s) next way g in
        again_left made way next now
        (set.behind slots params made in_loop in_list (While c s) h next outer heap now)))))
    run_to made in_loop in_list (DoWhile s c) h current here =
        after (turn_to set.scene.limit) (λ x k. then_left made (slots_made s)
        (run_to made true false s h.0 current here)
        (λ way next g. let now = weaker_by made (slots_made s) next way g in
        again_left made way next now
        (after (value_to set slots params made next outer heap now c h.1)
        (λ v i. choose_on (is_zero v) (give_still made next Through now)
        (set.behind slots params made in_loop in_list (DoWhile s c) h next outer heap now)))))
    run_to made in_loop in_list (For first c step s) h current here =
        let new = slots_made_by first in
        let inner = made ++ new in
        then_left made new (run_all_to made in_loop first h.0 current here)
        (λ way next g. pass_left made new [] way next g
        (λ now. after (condition_to set slots params inner next outer heap now c h.1)
        (λ v i. choose_on (is_zero v) (give_still made next Through (weaker made new next now))
        (after (turn_to set.scene.limit) (λ x k. then_left inner (slots_made s)
        (run_to inner true false s h.3 next now)
        (λ end_way last f. let then_now = weaker_by inner (slots_made s) last end_way f in
        again_left made end_way last (weaker made new last then_now)
        (after (perhaps_to set slots params inner last outer heap then_now step h.2)
        (λ y j. relax (set.behind slots params inner in_loop in_list (For no_stmts c step s)
        (next_pass program slots params inner in_loop in_list c step s h.1 h.2 h.3) last outer heap
        then_now)
        (forget_more made new [])))))))))
    run_to made in_loop in_list (Switch e cases d) h current here =
        after (value_to set slots params made current outer heap here e h.0)
        (λ v i. run_case_to made in_loop cases current here
        (run_else_to made in_loop d h.2 current here) v h.1)
    run_to made in_loop in_list (Return e) h current here =
        after (value_to set slots params made current outer heap here e h)
        (λ v i. give_still made current (Returned v) here)
    run_to made in_loop in_list Break h current here = give_still made current Broke here
    run_to made in_loop in_list Continue h current here = give_still made current Continued here
    run_to made in_loop in_list (Exit e tag) h current here =
        after (value_to set slots params made current outer heap here e h.0)
        (λ v i. stop_on (end.Exit v (cell_of tag)))
    run_to made in_loop in_list (Sleep e tag) h current here =
        after (value_to set slots params made current outer heap here e h.0)
        (λ v i. after (say_to (event.Slept v (cell_of tag)))
        (λ x k. give_still made current Through here))
    run_to made in_loop in_list (Assert e) h current here =
        after (value_to set slots params made current outer heap here e h)
        (λ v i. choose_on (is_zero v) (stop_on (end.Error (pos 2)))
        (give_still made current Through here))
    run_to made in_loop in_list (State automaton state c) h current here =
        let l = lay current outer heap in
        after (condition_to set slots params made current outer heap here c h.1)
        (λ v i. choose_on (is_zero v) (give_still made current Through here)
        (after (change_to set.missing l (switched automaton state)
        (λ m g. found.switches program l m automaton state
        (slice_get_within program.automata automaton h.0.it h.0.there) g))
        (λ x k. entered_by automaton state made current here h.0.it h.0.there)))
    run_to made in_loop in_list Empty h current here = give_still made current Through here

    run_else_to : (made : List ℕ) (in_loop : Bool) (b : Else)
        → IsValidElse (here_scope made) in_loop b → (current : List Drawn) → IsFrame made current
        → AlikeIn program (lay current outer heap) (IsLeft made [])
        (run_else set.scene set.fewer b) (gone.run_else set.missing set.scene set.fewer' b)
    run_else_to made in_loop no_else h current here = give_still made current Through here
    run_else_to made in_loop (otherwise s) h current here =
        relax (run_to made in_loop false s h current here) (forget made (slots_made s))

    run_case_to : (made : List ℕ) (in_loop : Bool) (cases : Cases) (current : List Drawn)
        → IsFrame made current → {d d' : Run Way}
        → AlikeIn program (lay current outer heap) (IsLeft made []) d d' → (v : ℤ)
        → AreValidCases (here_scope made) in_loop cases
        → AlikeIn program (lay current outer heap) (IsLeft made [])
        (run_case set.scene set.fewer cases d v)
        (gone.run_case set.missing set.scene set.fewer' cases d' v)
    run_case_to made in_loop no_cases current here s v h = s
    run_case_to made in_loop (then_case ranges s cases) current here other v h =
        choose_on (in_ranges ranges v)
        (relax (run_to made in_loop false s h.1 current here) (forget made (slots_made s)))
        (run_case_to made in_loop cases current here other v h.2)

    run_all_to : (made : List ℕ) (in_loop : Bool) (stmts : Stmts)
        → AreValidStmts (here_scope made) in_loop stmts → (current : List Drawn)
        → IsFrame made current
        → AlikeIn program (lay current outer heap) (IsLeft made (slots_made_by stmts))
        (run_all set.scene set.fewer stmts) (gone.run_all set.missing set.scene set.fewer' stmts)
    run_all_to made in_loop no_stmts h current here = give_still made current Through here
    run_all_to made in_loop (then_stmt s stmts) h current here =
        then_left made (slots_made s) (run_to made in_loop true s h.0 current here)
        (λ way next g. pass_left made (slots_made s) (slots_made s ++ slots_made_by stmts) way next g
        (λ now. relax (run_all_to (made ++ slots_made s) in_loop stmts h.1 next now)
        (joined made (slots_made s) (slots_made_by stmts))))

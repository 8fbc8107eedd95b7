-- Calls of functions and natives find what they ask for.
use Rattle.std.proofs.Common.{◌≡◌, ◌∙◌, ◌++◌, ℕ, ℤ, pos}
use Rattle.std.proofs.Common.{List, []}
use Rattle.std.proofs.Common.{◌∷◌, Bool, true, false, Option, None, Some, IfSome}
use Rattle.std.proofs.Common.{length, slice_get}
use Rattle.std.proofs.Common.{replicate, refl, sym, ap, subst}
use Rattle.std.proofs.Common.{if◌then◌else◌, ◌-◌}
use Rattle.host_script.specs.declared.event.End.TheVariants as end
use Rattle.host_script.specs.declared.event.Event.{Event}
use Rattle.host_script.specs.NativeCall.{Trap, Called, Ends_there, Answers, native_call}
use Rattle.pawn_meaning.specs.Program.{Stmt}
use Rattle.pawn_meaning.specs.Program.{Slot, Body, Function}
use Rattle.pawn_meaning.specs.Program.{Program}
use Rattle.pawn_meaning.specs.Program.{ScalarSlot}
use Rattle.pawn_meaning.specs.Memory.{Memory}
use Rattle.pawn_meaning.specs.Memory.{made}
use Rattle.pawn_meaning.specs.World.{World}
use Rattle.pawn_meaning.specs.Run.{with_frame}
use Rattle.pawn_meaning.specs.Natives.{Held, Value, Spot, call_native, after_call, finished}
use Rattle.pawn_meaning.specs.Natives.{see}
use Rattle.pawn_meaning.specs.Natives.{with_writes}
use Rattle.pawn_meaning.specs.Calls.{Way, Through, Broke, Continued, Returned}
use Rattle.pawn_meaning.specs.Calls.{value_of}
use Rattle.pawn_meaning.specs.Calls.{body_by, frame_of, run_body, enter_function}
use Rattle.pawn_meaning.specs.Calls.{entry_for, serves}
use Rattle.pawn_meaning.specs.Meaning.{Scene, Fewer, call, call_one}
use Rattle.pawn_meaning.specs.Meaning.{call_two}
use Rattle.pawn_meaning.specs.Meaning.{call_entry}
use Rattle.pawn_meaning.specs.ValidExprs.{Takes}
use Rattle.pawn_meaning.specs.ValidStmts.{IsValidStmt}
use Rattle.pawn_meaning.specs.ValidStmts.{slots_made}
use Rattle.pawn_meaning.specs.Valid.{IsValid, IsValidBody, IsValidFunction}
use Rattle.meaning_laws.specs.Missing.{finished_or}
use Rattle.meaning_laws.specs.Missing.{after_call_or, call_native_or}
use Rattle.meaning_laws.specs.MeaningWith as gone
use Rattle.meaning_laws.proofs.Outlines.{Drawn}
use Rattle.meaning_laws.proofs.Outlines.{Outline}
use Rattle.meaning_laws.proofs.Outlines.{Has}
use Rattle.meaning_laws.proofs.Accesses as found
use Rattle.meaning_laws.proofs.Accesses.{lay}
use Rattle.meaning_laws.proofs.NativeFinds.{AllFine, CalledFits, native_fits}
use Rattle.meaning_laws.proofs.NativeFinds.{native_seen, writes_done}
use Rattle.meaning_laws.proofs.Typings.{Here}
use Rattle.meaning_laws.proofs.ValidParts.{if_there, scope, valid_body}
use Rattle.meaning_laws.proofs.Entries as entries
use Rattle.meaning_laws.proofs.Entries.{drawn_of, drawn_is, begins_here}
use Rattle.meaning_laws.proofs.Steps.{Free, To, Framed, RelIn, AlikeIn, then_on, after, give_on, give_to}
use Rattle.meaning_laws.proofs.Steps.{stop_on, turn_to, framed, look_to}

-- the slots in force behind a statement
abbrev pub made_by : List ℕ → List ℕ → Way → List ℕ
made_by made new Through = made ++ new
made_by made new Broke = made
made_by made new Continued = made
made_by made new (Returned v) = made

module _ (program : Program) where
  -- behind a statement the frame is one of this scope
  abbrev pub Left : List Slot → ℕ → List ℕ → List ℕ → List (List Drawn) → List (List ℕ) → Outline → Way
      → Type 0
  Left slots params made new outer heap k way =
      (current : List Drawn) × (k ≡ lay current outer heap)
      × Here program slots params (made_by made new way) current outer heap

  abbrev pub Again : Fewer → Fewer → Type 0
  Again fewer fewer' = (slots : List Slot) (params : ℕ) (made : List ℕ) (in_loop in_list : Bool)
      (s : Stmt) → IsValidStmt (scope program slots params made) in_loop in_list s
      → (current : List Drawn) (outer : List (List Drawn)) (heap : List (List ℕ))
      → Here program slots params made current outer heap
      → AlikeIn program (lay current outer heap) (Left slots params made (slots_made s) outer heap)
      (fewer s) (fewer' s)

-- what a run of a valid program stands in, and the other with an end of its own
pub record Setting : Type 0 where
  pub scene : Scene
  pub valid : IsValid scene.program
  pub missing : Trap
  pub fewer : Fewer
  pub fewer' : Fewer
  pub behind : Again scene.program fewer fewer'

module _ (set : Setting) where
  abbrev program : Program
  program = set.scene.program

  abbrev AllFit : Outline → List Slot → List Held → Type 0
  AllFit l kinds held = entries.AllFit program l kinds held

  body_to : (l : Outline) (f : ℕ) (function : Function) (params : List Slot) (held : List Held)
      (o : Option Body) → IfSome o (IsValidBody program params) → AllFit l params held
      → AlikeIn program {A = ℤ} l (To l Free)
      (with_frame (frame_of f function held o) (run_body set.fewer o))
      (with_frame (frame_of f function held o) (run_body set.fewer' o))
  body_to l f function params held None it fits =
      framed l (drawn_of held (0 - length held)) (frame_of f function held None)
      (drawn_is held (0 - length held)) (stop_on (end.Error (pos 13)))
  body_to l f function params held (Some body) it fits =
      let drawn = drawn_of held (length body.slots - length held) in
      framed l drawn (frame_of f function held (Some body))
      (drawn_is held (length body.slots - length held))
      (let s =
      then_on {Out = Framed l.frames l.heap}
      (set.behind body.slots (length params) [] false false body.stmt it.stmt drawn l.frames l.heap
      (begins_here program l params body held it fits))
      (λ k way i. give_on (value_of way) (i.0, i.1)) in
      record { at = λ w g. s.at w g })

  pub enter_to_body : (l : Outline) (f : ℕ) (function : Function) (held : List Held)
      → IsValidFunction program function → AllFit l function.params held
      → AlikeIn program {A = ℤ} l (To l Free) (enter_function set.fewer f function held)
      (enter_function set.fewer' f function held)
  enter_to_body l f function held it fits = record {
    at = λ w h.
        (body_to l f function function.params held (body_by function function.dispatch w.memory)
        (valid_body program function function.params function.dispatch w.memory it.bodies) fits).at w h;
  }

  -- ---- calls

  pub call_to : (l : Outline) (params : List Slot) (f : ℕ) (held : List Held) → AllFit l params held
      → Takes program f params
      → AlikeIn program {A = ℤ} l (To l Free) (call set.scene set.fewer f held)
      (gone.call set.missing set.scene set.fewer' f held)
  call_to l params f held fits it =
      after (look_to set.missing {In = λ function. function ≡ it.function}
      (λ m. slice_get program.functions f) (λ m h. (it.function, it.there, refl)))
      (λ function i. after (turn_to set.scene.limit) (λ x j. enter_to_body l f function held
      (subst (IsValidFunction program) (sym i)
      (if_there (IsValidFunction program) program.functions f set.valid.functions (Some it.function)
      it.there))
      (subst (λ z. AllFit l z held) (sym (ap (λ (z : Function). z.params) i ∙ it.params_are)) fits)))

  pub one_to : (l : Outline) (f : ℕ) (v : ℤ) → Takes program f (replicate 1 ScalarSlot)
      → AlikeIn program {A = ℤ} l (To l Free) (call_one set.scene set.fewer f v)
      (gone.call_one set.missing set.scene set.fewer' f v)
  one_to l f v it = call_to l (ScalarSlot ∷ []) f (Value v ∷ []) (tt, tt) it

  pub two_to : (l : Outline) (f : ℕ) (swapped : Bool) (x y : ℤ) → Takes program f (replicate 2 ScalarSlot)
      → AlikeIn program {A = ℤ} l (To l Free) (call_two set.scene set.fewer f swapped x y)
      (gone.call_two set.missing set.scene set.fewer' f swapped x y)
  two_to l f true x y it =
      call_to l (ScalarSlot ∷ ScalarSlot ∷ []) f (Value y ∷ Value x ∷ []) (tt, (tt, tt)) it
  two_to l f false x y it =
      call_to l (ScalarSlot ∷ ScalarSlot ∷ []) f (Value x ∷ Value y ∷ []) (tt, (tt, tt)) it

  finished_to : (l : Outline) (it : Event) (result : ℤ) (position : ℕ) (o : Option Memory)
      → found.Done program l o → (w : World)
      → RelIn program {A = ℤ} (To l Free) (finished it result position o w)
      (finished_or set.missing it result position o w)
  finished_to l it result position o h w =
      subst (λ q. RelIn program {A = ℤ} (To l Free) (finished it result position q w)
      (finished_or set.missing it result position q w)) (sym h.1) (refl, (l, h.2, (refl, tt)))

  called_to : (l : Outline) (called : Called Spot) → CalledFits program set.missing l called
      → (w : World) → Has program l w.memory
      → RelIn program {A = ℤ} (To l Free) (after_call called w) (after_call_or set.missing called w)
  called_to l (Ends_there trap position) f w h = refl
  called_to l (Answers it result position puts) f w h =
      finished_to l it result position (with_writes puts (Some w.memory))
      (writes_done program set.missing l puts (Some w.memory) f (w.memory, refl, h)) w

  pub native_to : (l : Outline) (name : List ℕ) (held : List Held) → AllFine program l held
      → AlikeIn program {A = ℤ} l (To l Free) (call_native set.scene.script name held)
      (call_native_or set.missing set.scene.script name held)
  native_to l name held fits = record {
    at = λ w h.
        subst (λ c. RelIn program {A = ℤ} (To l Free) (call_native set.scene.script name held w)
        (after_call_or set.missing c w))
        (sym (native_seen program set.missing l set.scene.script w.memory name held w.position fits h))
        (called_to l (native_call set.scene.script (see w.memory) name held w.position)
        (native_fits program set.missing l set.scene.script w.memory name held w.position fits h) w h);
  }

  chosen_to : (l : Outline) (f : ℕ) → Takes program f [] → (b : Bool)
      → AlikeIn program l (To l (λ way. way ≡ Through))
      (call_entry set.scene set.fewer (if b then Some f else None))
      (gone.call_entry set.missing set.scene set.fewer' (if b then Some f else None))
  chosen_to l f it true = after (call_to l [] f [] tt it) (λ x i. give_to Through refl)
  chosen_to l f it false = give_to Through refl

  pub entry_to : (l : Outline) (automaton state : ℕ) (o : Option ℕ) → IfSome o (λ f. Takes program f [])
      → AlikeIn program l (To l (λ way. way ≡ Through))
      (call_entry set.scene set.fewer (entry_for program automaton state o))
      (gone.call_entry set.missing set.scene set.fewer' (entry_for program automaton state o))
  entry_to l automaton state None h = give_to Through refl
  entry_to l automaton state (Some f) h =
      chosen_to l f h (serves (slice_get program.functions f) automaton state)

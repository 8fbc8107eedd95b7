-- What a run of the machine shows: each sleep by one event, and nothing of what was shown before
-- it.
use Rattle.std.proofs.Common.{◌≡◌, ◌+◌, ℕ, zero, suc, ℤ, List, [], ◌∷◌, ◌++◌, Option, None, Some}
use Rattle.std.proofs.Common.{Bool, true, false, refl, sym, ap, ◌∙◌, append_assoc, length, arith}
use Rattle.host_script.specs.declared.script.Script.{Script}
use Rattle.host_script.specs.declared.event.Event.{Event}
use Rattle.host_script.specs.declared.event.Event.TheVariants.{Native, Slept}
use Rattle.host_script.specs.declared.event.Event.TheVariants as event
use Rattle.host_script.specs.declared.event.End.{End}
use Rattle.host_script.specs.declared.script.Form.{Form}
use Rattle.host_script.specs.declared.script.Answer.{Answer}
use Rattle.host_script.specs.declared.script.Answer.TheVariants.{Given, Error}
use Rattle.host_script.specs.Script.{Turn, native_of, forms_of, turn_of}
use Rattle.host_script.specs.NativeCall as call
use Rattle.host_script.specs.NativeCall.{Sight, Sees, Blind, Sought, Put, Called, Ends_there}
use Rattle.host_script.specs.NativeCall.{Answers, see_all, puts_of, called_by, called_with}
use Rattle.host_script.specs.NativeCall.{called_on, native_call}
use Rattle.host_script.specs.declared.event.Seen.{Seen}
use Rattle.amx_ops.specs.declared.amx.Amx.{Amx}
use Rattle.amx_ops.specs.Table.{is_number}
use Rattle.amx_ops.specs.State as state
use Rattle.amx_ops.specs.State.{State, Turned}
use Rattle.amx_ops.specs.Step.{step}
use Rattle.amx_ops.specs.Runs.{Moved, Goes, Sleeps, Ends, Finish, Cut, Over, iterate, Stop, Steps}
use Rattle.amx_ops.specs.Runs.{Asleep, Over_by, Segmented, segment, joined, sleeps}
use Rattle.amx_ops.specs.Moves.{Config, look, with_writes, answered, asked, arguments, name_of}
use Rattle.amx_ops.specs.Moves.{halted_by, moved, move}
use Rattle.amx_ops.specs.Cuts.{Leads, slept_in, showing, TraceIsOneIteration}
use Rattle.amx_ops.proofs.RunLaws.{iterate-zero, iterate-goes, iterate-sleeps, iterate-ends}
use Rattle.amx_ops.proofs.RunLaws.{segment-zero, segment-goes, segment-sleeps, segment-ends}
use Rattle.amx_ops.proofs.RunLaws.{sleeps-zero, sleeps-goes, sleeps-sleeps, sleeps-ends}
use Rattle.amx_ops.proofs.CutLaws.{joined_cut}

-- ---- sleeps

pub native_more : (events : List Event) (name : List ℕ) (seen : List Seen) (result : ℤ)
    → slept_in (events ++ Native name seen result ∷ []) ≡ slept_in events
native_more [] name seen result = refl
native_more (Native n s r ∷ events) name seen result = native_more events name seen result
native_more (Slept v t ∷ events) name seen result = ap suc (native_more events name seen result)

slept_more : (events : List Event) (value tag : ℤ)
    → slept_in (events ++ Slept value tag ∷ []) ≡ suc (slept_in events)
slept_more [] value tag = refl
slept_more (Native n s r ∷ events) value tag = slept_more events value tag
slept_more (Slept v t ∷ events) value tag = ap suc (slept_more events value tag)

-- a move shows a sleep exactly where it is one
abbrev pub ShowsSleep : Config → Moved Config End → Type 0
ShowsSleep c (Goes d) = slept_in d.events ≡ slept_in c.events
ShowsSleep c (Sleeps d) = slept_in d.events ≡ suc (slept_in c.events)
ShowsSleep c (Ends e d) = slept_in d.events ≡ slept_in c.events

-- a native is no sleep
abbrev IsAwake : Called ℕ → Type 0
IsAwake (Ends_there trap position) = Unit {0}
IsAwake (Answers e result position puts) =
    (events : List Event) → slept_in (events ++ e ∷ []) ≡ slept_in events

answered_awake : (name : List ℕ) (arguments : List (Sought ℕ)) (result : ℤ) (position : ℕ)
    (puts : Option (List (Put ℕ)))
    → IsAwake (call.answered name arguments result position puts)
answered_awake name arguments result position None = tt
answered_awake name arguments result position (Some puts) =
    λ events. native_more events name _ result

called_awake : (name : List ℕ) (arguments : List (Sought ℕ)) (answer : Answer) (position : ℕ)
    → IsAwake (called_by name arguments answer position)
called_awake name arguments (Given result writes) position =
    answered_awake name arguments result position (puts_of arguments writes)
called_awake name arguments (Error code) position = tt

seen_awake : (name : List ℕ) (position : ℕ) (turn : Turn) (sight : Sight (List (Sought ℕ)))
    → IsAwake (called_with name position turn sight)
seen_awake name position turn (Sees arguments) =
    called_awake name arguments turn.answer turn.position
seen_awake name position turn (Blind trap) = tt

on_awake : (see : ℤ → Form → Sight (Sought ℕ)) (name : List ℕ) (cells : List ℤ) (position : ℕ)
    (turn : Turn) (forms : Option (List Form))
    → IsAwake (called_on see name cells position turn forms)
on_awake see name cells position turn None = tt
on_awake see name cells position turn (Some forms) =
    seen_awake name position turn (see_all see cells forms)

answered_shows : (called : Called ℕ) (s : State) (c : Config) → IsAwake called
    → ShowsSleep c (answered called s c)
answered_shows (Ends_there trap position) s c awake = refl
answered_shows (Answers e result position puts) s c awake = awake c.events

asked_shows : (script : Script) (name : List ℕ) (o : Option (List ℤ)) (s : State) (c : Config)
    → ShowsSleep c (asked script name o s c)
asked_shows script name None s c = refl
asked_shows script name (Some cells) s c =
    answered_shows (native_call script (look s) name cells c.position) s c
    (on_awake (look s) name cells c.position (turn_of script (native_of script name) c.position)
    (forms_of (native_of script name) (length cells)))

halted_shows : (v : ℤ) (a b d : Bool) (s : State) (c : Config)
    → ShowsSleep c (halted_by v a b d s c)
halted_shows v true b d s c = refl
halted_shows v false true d s c = refl
halted_shows v false false true s c = slept_more c.events s.pri s.alt
halted_shows v false false false s c = refl

moved_shows : (amx : Amx) (script : Script) (c : Config) (t : Turned)
    → ShowsSleep c (moved amx script c t)
moved_shows amx script c (state.Goes s) = refl
moved_shows amx script c (state.Errs code) = refl
moved_shows amx script c (state.Halts v s) =
    halted_shows v (is_number 0 v) (is_number 1 v) (is_number 12 v) s c
moved_shows amx script c (state.Asks n s) =
    asked_shows script (name_of amx.natives n) (arguments s) s c

abbrev finished : Finish Config End → Config
finished (Cut d) = d
finished (Over e d) = d

module _ (amx : Amx) (script : Script) where
  abbrev mv : Config → Moved Config End
  mv = move amx script

  shows_by : (n : ℕ) (c : Config) (m : Moved Config End) → mv c ≡ m → ShowsSleep c m
      → ((d : Config) → slept_in (finished (iterate mv n d)).events
      ≡ slept_in d.events + sleeps mv n d)
      → slept_in (finished (iterate mv (suc n) c)).events ≡ slept_in c.events + sleeps mv (suc n) c
  shows_by n c (Goes d) e h rest =
      rw (iterate-goes mv n c d e, sleeps-goes mv n c d e) (omega (arith, rest d, h))
  shows_by n c (Sleeps d) e h rest =
      rw (iterate-sleeps mv n c d e, sleeps-sleeps mv n c d e) (omega (arith, rest d, h))
  shows_by n c (Ends x d) e h rest =
      rw (iterate-ends mv n c d x e, sleeps-ends mv n c d x e) (omega (arith, h))

  iterate_shows : (n : ℕ) (c : Config)
      → slept_in (finished (iterate mv n c)).events ≡ slept_in c.events + sleeps mv n c
  iterate_shows zero c = rw (iterate-zero mv c, sleeps-zero mv c) (omega arith)
  iterate_shows (suc n) c =
      shows_by n c (mv c) refl (moved_shows amx script c (step amx c.state))
      (λ d. iterate_shows n d)

  -- the iteration is where the trace stopped
  ends_at : (total : ℕ) (c : Config) (stop : Stop End) (x : Config) → Leads mv total c stop x
      → finished (iterate mv total c) ≡ x
  ends_at total c Steps x l =
      ap finished (ap (λ n. iterate mv n c) (omega arith) ∙ l 0 ∙ iterate-zero mv x)
  ends_at total c Asleep x l =
      ap finished (ap (λ n. iterate mv n c) (omega arith) ∙ l 0 ∙ iterate-zero mv x)
  ends_at total c (Over_by e) x l = ap finished (ap (λ n. iterate mv n c) (omega arith) ∙ l 0)

  pub joined_shows : (bound : ℕ) (bounds : List ℕ) (c : Config)
      → slept_in (joined mv bound bounds c).config.events
      ≡ slept_in c.events + sleeps mv (joined mv bound bounds c).steps c
  joined_shows bound bounds c =
      let t = joined mv bound bounds c in
      ap (λ (d : Config). slept_in d.events)
      (sym (ends_at t.steps c t.stop t.config (joined_cut mv bound bounds c).leads))
      ∙ iterate_shows t.steps c

-- ---- what was shown before

abbrev after : {E : Type 0} → (Config → Config) → Moved Config E → Moved Config E
after f (Goes d) = Goes (f d)
after f (Sleeps d) = Sleeps (f d)
after f (Ends e d) = Ends e (f d)

module _ (es : List Event) where
  answered_after : (called : Called ℕ) (s : State) (c : Config)
      → answered called s (showing es c) ≡ after (showing es) (answered called s c)
  answered_after (Ends_there trap position) s c = refl
  answered_after (Answers e result position puts) s c =
      ap (λ l. Goes (record {
        state = record s { pri = result; cells = with_writes puts s.cells };
        position = position;
        events = l;
      }))
      (append_assoc es c.events (e ∷ []))

  asked_after : (script : Script) (name : List ℕ) (o : Option (List ℤ)) (s : State) (c : Config)
      → asked script name o s (showing es c) ≡ after (showing es) (asked script name o s c)
  asked_after script name None s c = refl
  asked_after script name (Some cells) s c =
      answered_after (native_call script (look s) name cells c.position) s c

  halted_after : (v : ℤ) (a b d : Bool) (s : State) (c : Config)
      → halted_by v a b d s (showing es c) ≡ after (showing es) (halted_by v a b d s c)
  halted_after v true b d s c = refl
  halted_after v false true d s c = refl
  halted_after v false false true s c =
      ap (λ l. Sleeps (record { state = s; position = c.position; events = l }))
      (append_assoc es c.events (event.Slept s.pri s.alt ∷ []))
  halted_after v false false false s c = refl

  moved_after : (amx : Amx) (script : Script) (c : Config) (t : Turned)
      → moved amx script (showing es c) t ≡ after (showing es) (moved amx script c t)
  moved_after amx script c (state.Goes s) = refl
  moved_after amx script c (state.Errs code) = refl
  moved_after amx script c (state.Halts v s) =
      halted_after v (is_number 0 v) (is_number 1 v) (is_number 12 v) s c
  moved_after amx script c (state.Asks n s) =
      asked_after script (name_of amx.natives n) (arguments s) s c

abbrev shown_after : (Config → Config) → Segmented Config End → Segmented Config End
shown_after f s = record { stop = s.stop; config = f s.config; steps = s.steps }

module _ (mv : Config → Moved Config End) (f : Config → Config)
    (same : (c : Config) → mv (f c) ≡ after f (mv c)) where
  segment_by : (n k : ℕ) (c : Config) (m : Moved Config End) → mv c ≡ m
      → ((d : Config) → segment mv n (k + 1) (f d) ≡ shown_after f (segment mv n (k + 1) d))
      → segment mv (suc n) k (f c) ≡ shown_after f (segment mv (suc n) k c)
  segment_by n k c (Goes d) e rest =
      segment-goes mv n k (f c) (f d) (same c ∙ ap (after f) e) ∙ rest d
      ∙ ap (shown_after f) (sym (segment-goes mv n k c d e))
  segment_by n k c (Sleeps d) e rest =
      segment-sleeps mv n k (f c) (f d) (same c ∙ ap (after f) e)
      ∙ ap (shown_after f) (sym (segment-sleeps mv n k c d e))
  segment_by n k c (Ends x d) e rest =
      segment-ends mv n k (f c) (f d) x (same c ∙ ap (after f) e)
      ∙ ap (shown_after f) (sym (segment-ends mv n k c d x e))

  segment_after : (n k : ℕ) (c : Config) → segment mv n k (f c) ≡ shown_after f (segment mv n k c)
  segment_after zero k c = segment-zero mv k (f c) ∙ ap (shown_after f) (sym (segment-zero mv k c))
  segment_after (suc n) k c = segment_by n k c (mv c) refl (λ d. segment_after n (k + 1) d)

pub trace_is_one_iteration_lem : TraceIsOneIteration
trace_is_one_iteration_lem = record {
  cut = λ amx script bound bounds c. joined_cut (move amx script) bound bounds c;
  shown = λ amx script bound bounds c. joined_shows amx script bound bounds c;
  resumed = λ amx script bound es c.
      segment_after (move amx script) (showing es)
      (λ d. moved_after es amx script d (step amx d.state)) bound 0 c;
}

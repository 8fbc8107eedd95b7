-- What one event comes to: an end, a sleep, a native that was answered, or nothing.
use Rattle.std.proofs.Common.{◌≡◌, ◌≢◌, ◌≤◌, ◌⊎◌, inl, inr, ℕ, ℤ, pos, negsuc, false, List, [], ◌∷◌}
use Rattle.std.proofs.Common.{◌++◌, Option, None, Some, length, refl, sym, ap, ap₂, subst, ◌∙◌}
use Rattle.std.proofs.Common.{append-nil, length-append, arith}
use Rattle.std.proofs.lemmas.Bool.{ne_eqb}
use Rattle.host_script.specs.declared.script.Script.{Script}
use Rattle.host_script.specs.declared.event.Event.{Event as Shown}
use Rattle.host_script.specs.declared.event.Event.TheVariants as shown
use Rattle.host_script.specs.declared.event.End.{End}
use Rattle.host_script.specs.declared.event.End.TheVariants as end
use Rattle.host_script.specs.Text.{event_text, end_text}
use Rattle.host_script.specs.NativeCall.{Called}
use Rattle.host_script.specs.Script.{native_of}
use Rattle.amx_ops.specs.Table.{is_number}
use Rattle.amx_ops.specs.State.{State}
use Rattle.amx_ops.specs.Moves.{Config, halted, asked, answered, arguments}
use Rattle.amx_ops.specs.Runs.{Moved, Stop, Steps, Asleep, Over_by}
use Rattle.amx_ops.specs.Runs as run
use Rattle.amx_machine.specs.declared.mode.Mode.{Mode}
use Rattle.amx_machine.specs.declared.mode.Mode.TheVariants as mode
use Rattle.host_run.specs.declared.end.SessionEnd.{SessionEnd}
use Rattle.host_run.specs.declared.end.SessionEnd.TheVariants as answer
use Rattle.host_run.specs.declared.guest.Guest.{Guest}
use Rattle.host_run.specs.Called.{called_for, called_of}
use Rattle.host_run.specs.Segments.{Place, lines_behind}
use Rattle.host_run.specs.Stands.{IsEnded}
use Rattle.host_run.specs.Advance.{IsGiven, Advanced, IsOver, IsSleep, IsGuest, call_by}
use Rattle.host_run.specs.Reached.{placed}

-- nothing more was shown
none_more : (s : State) (position : ℕ) (before : List Shown)
    → placed s position before ≡ placed s position (before ++ [])
none_more s position before = ap (placed s position) (sym (append-nil before))

one_line : (front : List ℕ) (event : Shown)
    → lines_behind front (event ∷ []) ++ [] ≡ front ++ event_text event
one_line front event =
    append-nil (lines_behind front (event ∷ [])) ∙ append-nil (front ++ event_text event)

some_behind : (front text : List ℕ) → 1 ≤ length text → 1 ≤ length (front ++ text)
some_behind front text h = omega (arith, h, length-append front text)

some_event : (event : Shown) → 1 ≤ length (event_text event)
some_event (shown.Native name seen result) = omega arith
some_event (shown.Slept value tag) = omega arith

some_end : (e : End) (m : Mode) → IsEnded e m → 1 ≤ length (end_text e)
some_end (end.Done value) m h = omega arith
some_end (end.Exit value tag) m h = omega arith
some_end (end.Error code) m h = omega arith
some_end end.Stray m h = absurd h

no_stray : (e : End) (m : Mode) → e ≡ end.Stray → IsEnded e m → ⊥
no_stray e m is h = subst (λ x. IsEnded x m) is h

given_over : (e : End) (m : Mode) (s : State) (given : SessionEnd) → IsEnded e m → IsOver e given
    → IsGiven (Over_by e) s (Some given)
given_over e m s (answer.Done value) h is = ap Over_by is
given_over e m s (answer.Exit value tag) h is = ap Over_by is
given_over e m s (answer.Error code) h is = ap Over_by is
given_over e m s (answer.Asleep value tag) h is = absurd is
given_over e m s answer.Steps h is = absurd (no_stray e m is h)
given_over e m s answer.SinkFault h is = tt

given_sleep : (s : State) (given : SessionEnd) → IsSleep s.pri s.alt given
    → IsGiven Asleep s (Some given)
given_sleep s (answer.Done value) is = absurd is
given_sleep s (answer.Exit value tag) is = absurd is
given_sleep s (answer.Error code) is = absurd is
given_sleep s (answer.Asleep value tag) is = (refl, is.0, is.1)
given_sleep s answer.Steps is = absurd is
given_sleep s answer.SinkFault is = tt

given_on : (s : State) (given : Option SessionEnd)
    → (given ≡ None) ⊎ (given ≡ Some answer.SinkFault) → IsGiven Steps s given
given_on s given (inl e) = subst (IsGiven Steps s) (sym e) refl
given_on s given (inr e) = subst (IsGiven Steps s) (sym e) tt

module _ {front : List ℕ} {go : List Shown → Moved Config End} {new : Place}
    {say : List ℕ → Type 0} where
  pub ends : (e : End) (given : SessionEnd)
      → ((before : List Shown) → go before
      ≡ run.Ends e (placed new.machine.state new.position before))
      → IsEnded e new.machine.mode → IsOver e given → say (front ++ end_text e)
      → Advanced front go new (Some given) say
  ends e given is mode over said = record {
    stop = Over_by e;
    shown = [];
    moved = λ before. is before ∙ ap (run.Ends e) (none_more new.machine.state new.position before);
    mode = mode;
    gives = given_over e new.machine.mode new.machine.state given mode over;
    said = said;
    some = λ h. some_behind front (end_text e) (some_end e new.machine.mode mode);
  }

  pub sleeps : (pri alt : ℤ) (given : SessionEnd) → pri ≡ new.machine.state.pri
      → alt ≡ new.machine.state.alt
      → ((before : List Shown) → go before
      ≡ run.Sleeps (placed new.machine.state new.position
      (before ++ shown.Slept new.machine.state.pri new.machine.state.alt ∷ [])))
      → new.machine.mode ≡ mode.Asleep → IsSleep pri alt given
      → say (front ++ event_text (shown.Slept pri alt)) → Advanced front go new (Some given) say
  sleeps pri alt given p a is mode sleep said = record {
    stop = Asleep;
    shown = shown.Slept new.machine.state.pri new.machine.state.alt ∷ [];
    moved = is;
    mode = mode;
    gives =
        given_sleep new.machine.state given
        (subst (λ x. IsSleep x new.machine.state.alt given) p
        (subst (λ x. IsSleep pri x given) a sleep));
    said =
        subst say (ap₂ (λ x y. front ++ event_text (shown.Slept x y)) p a
        ∙ sym (one_line front (shown.Slept new.machine.state.pri new.machine.state.alt))) said;
    some =
        λ h. subst (λ text. 1 ≤ length text)
        (sym (one_line front (shown.Slept new.machine.state.pri new.machine.state.alt)))
        (some_behind front
        (event_text (shown.Slept new.machine.state.pri new.machine.state.alt))
        (some_event (shown.Slept new.machine.state.pri new.machine.state.alt)));
  }

  pub answers : (event : Shown) (given : Option SessionEnd)
      → (given ≡ None) ⊎ (given ≡ Some answer.SinkFault)
      → ((before : List Shown) → go before
      ≡ run.Goes (placed new.machine.state new.position (before ++ event ∷ [])))
      → new.machine.mode ≡ mode.Running → say (front ++ event_text event) → Advanced front go new given say
  answers event given which is mode said = record {
    stop = Steps;
    shown = event ∷ [];
    moved = is;
    mode = mode;
    gives = given_on new.machine.state given which;
    said = subst say (sym (one_line front event)) said;
    some = λ h. subst (λ text. 1 ≤ length text) (sym (one_line front event))
        (some_behind front (event_text event) (some_event event));
  }

  pub nothing : ((before : List Shown)
      → go before ≡ run.Goes (placed new.machine.state new.position before))
      → new.machine.mode ≡ mode.Running → say [] → Advanced front go new None say
  nothing is mode said = record {
    stop = Steps;
    shown = [];
    moved = λ before. is before ∙ ap run.Goes (none_more new.machine.state new.position before);
    mode = mode;
    gives = refl;
    said = said;
    some = λ h. absurd (cc h);
  }

-- ---- halts

isnt_number : (n : ℕ) (z : ℤ) → z ≢ pos n → is_number n z ≡ false
isnt_number n (pos m) e = ne_eqb n m (λ same. e (ap pos (sym same)))
isnt_number n (negsuc m) e = refl

pub halted-error : (z : ℤ) (s : State) (c : Config) → z ≢ pos 0 → z ≢ pos 1 → z ≢ pos 12
    → halted z s c ≡ run.Ends (end.Error z) (record c { state = s })
halted-error z s c a b d = rw (isnt_number 0 z a, isnt_number 1 z b, isnt_number 12 z d) refl

-- ---- natives

module _ (script : Script) (name : List ℕ) (guest : Guest) (is : IsGuest script name guest) where
  by_read : (o : Option (List ℤ)) (s : State) (c : Config)
      → asked script name o s c
      ≡ answered (called_for script (native_of script name).forms (native_of script name).rest
      (native_of script name).result name s c.position o) s c
  by_read None s c = refl
  by_read (Some values) s c = refl

  as_guest : (s : State) (position : ℕ) (o : Option (List ℤ))
      → called_for script (native_of script name).forms (native_of script name).rest
      (native_of script name).result name s position o
      ≡ called_for script guest.forms.now guest.rest guest.result name s position o
  as_guest s position o =
      ap (λ forms. called_for script forms (native_of script name).rest
      (native_of script name).result name s position o) (sym is.forms)
      ∙ ap (λ rest. called_for script guest.forms.now rest
      (native_of script name).result name s position o) (sym is.rest)
      ∙ ap (λ result. called_for script guest.forms.now guest.rest result name s position o)
      (sym is.result)

  -- a call by what the script says of the name
  pub asked_is : (p : Place) (before : List Shown) (called : Called ℕ)
      → called_of script guest.forms.now guest.rest guest.result name p.machine.state p.position
      ≡ called
      → call_by script name p before
      ≡ answered called p.machine.state (placed p.machine.state p.position before)
  asked_is p before called e =
      let s = p.machine.state in
      by_read (arguments s) s (placed s p.position before)
      ∙ ap (λ it. answered it s (placed s p.position before))
      (as_guest s p.position (arguments s) ∙ e)

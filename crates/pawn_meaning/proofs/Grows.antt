-- What only grows in a run: the entries at their end, turns and peak.
use Rattle.std.proofs.Common.{◌≡◌, ◌+◌, ◌≤◌, ℕ, ℤ, List, [], ◌∷◌, ◌++◌, Option, None, Some, Bool}
use Rattle.std.proofs.Common.{true, false, refl, sym, ap, ◌∙◌, append_assoc, append-nil, arith}
use Rattle.std.proofs.Common.{nat_lt}
use Rattle.host_script.specs.declared.event.End.{End}
use Rattle.host_script.specs.declared.event.Event.{Event}
use Rattle.host_script.specs.declared.script.Script.{Script}
use Rattle.host_script.specs.NativeCall.{Called, Ends_there, Answers, native_call}
use Rattle.pawn_meaning.specs.World.{Entry, World, said, entered, left}
use Rattle.pawn_meaning.specs.Run.{Outcome, Gives, Stops, More, Run, then_do, ◌>>=◌, give, stop}
use Rattle.pawn_meaning.specs.Run.{or_stop, turn, look, changed, change, say, enter, leave}
use Rattle.pawn_meaning.specs.Memory.{Memory, Frame}
use Rattle.pawn_meaning.specs.Natives.{Held, Spot, see, with_writes, finished, after_call}
use Rattle.pawn_meaning.specs.Natives.{call_native}
use Rattle.host_script.specs.declared.event.End.TheVariants as end
use Rattle.pawn_meaning.specs.Extends.{Rises}
use Rattle.pawn_meaning.specs.Later.{Later, world_of, Grows}

pub rises_from : (t p : ℕ) (es : List Entry) (t' p' u q : ℕ) → u ≤ t → q ≤ p → Rises t p es t' p'
    → Rises u q es t' p'
rises_from t p [] t' p' u q a b r = (omega (arith, r.0), omega (arith, r.1))
rises_from t p (e ∷ es) t' p' u q a b r = (omega (arith, r.0), omega (arith, r.1), r.2)

pub rises_on : (t p : ℕ) (es fs : List Entry) (t' p' u q : ℕ) → Rises t p es t' p'
    → Rises t' p' fs u q → Rises t p (es ++ fs) u q
rises_on t p [] fs t' p' u q r s = rises_from t' p' fs u q t p r.0 r.1 s
rises_on t p (e ∷ es) fs t' p' u q r s = (r.0, r.1, rises_on e.turns e.peak es fs t' p' u q r.2 s)

pub later_on : {w x y : World} → Later w x → Later x y → Later w y
later_on {w} {x} {y} a b = record {
  new = a.new ++ b.new;
  entries = b.entries ∙ ap (λ es. es ++ b.new) a.entries ∙ append_assoc w.entries a.new b.new;
  rises = rises_on _ _ a.new b.new _ _ _ _ a.rises b.rises;
}

-- the same entries, with turns and peak that didn't fall
pub no_entries : (w x : World) → x.entries ≡ w.entries → w.turns ≤ x.turns → w.peak ≤ x.peak
    → Later w x
no_entries w x e t p = record { new = []; entries = e ∙ sym (append-nil w.entries); rises = (t, p) }

pub same_later : (w : World) → Later w w
same_later w = no_entries w w refl (omega arith) (omega arith)

pub grown_by : {A B : Type 0} (w : World) (o : Outcome A) (go : A → Run B) → Later w (world_of o)
    → ((a : A) → Grows (go a)) → Later w (world_of (then_do o go))
grown_by w (Gives a x) go l g = later_on l ((g a).at x)
grown_by w (Stops end x) go l g = l
grown_by w (More x) go l g = l

pub after_grows : {A B : Type 0} {run : Run A} {go : A → Run B} → Grows run
    → ((a : A) → Grows (go a)) → Grows (run >>= go)
after_grows {run = run} {go = go} first rest =
    record { at = λ w. grown_by w (run w) go (first.at w) rest }

turns_rise : (t p : ℕ) (es : List Entry) (t' p' : ℕ) → Rises t p es t' p' → t ≤ t'
turns_rise t p [] t' p' r = r.0
turns_rise t p (e ∷ es) t' p' r = omega (arith, r.0, turns_rise e.turns e.peak es t' p' r.2)

-- turns don't fall
pub world_later : (w x : World) → Later w x → w.turns ≤ x.turns
world_later w x l = turns_rise _ _ l.new _ _ l.rises

-- ---- the steps

pub give_grows : {A : Type 0} (a : A) → Grows (give a)
give_grows a = record { at = λ w. same_later w }

pub stop_grows : {A : Type 0} (end : End) → Grows (stop {A = A} end)
stop_grows end = record { at = λ w. same_later w }

pub or_stop_grows : {A : Type 0} (o : Option A) (end : End) → Grows (or_stop o end)
or_stop_grows None end = stop_grows end
or_stop_grows (Some a) end = give_grows a

pub look_grows : {A : Type 0} (f : Memory → Option A) → Grows (look f)
look_grows f = record { at = λ w. (or_stop_grows (f w.memory) end.Stray).at w }

changed_later : (o : Option Memory) (w : World) → Later w (world_of (changed o w))
changed_later None w = same_later w
changed_later (Some m) w = no_entries w (record w { memory = m }) refl (omega arith) (omega arith)

pub change_grows : (f : Memory → Option Memory) → Grows (change f)
change_grows f = record { at = λ w. changed_later (f w.memory) w }

pub enter_grows : (frame : Frame) → Grows (enter frame)
enter_grows frame =
    record { at = λ w. no_entries w (entered frame w) refl (omega arith) (omega arith) }

pub leave_grows : Grows leave
leave_grows = record { at = λ w. no_entries w (left w) refl (omega arith) (omega arith) }

turned : (limit : ℕ) (w : World) (b : Bool) → nat_lt w.turns limit ≡ b
    → Later w (world_of (turn limit w))
turned limit w true e =
    rw e (no_entries w (record w { turns = w.turns + 1 }) refl (omega arith) (omega arith))
turned limit w false e = rw e (same_later w)

pub turn_grows : (limit : ℕ) → Grows (turn limit)
turn_grows limit = record { at = λ w. turned limit w _ refl }

pub said_later : (event : Event) (w : World) → Later w (said event w)
said_later event w = record {
  new = record { event = event; turns = w.turns; peak = w.peak } ∷ [];
  entries = refl;
  rises = (omega arith, omega arith, (omega arith, omega arith));
}

pub say_grows : (event : Event) → Grows (say event)
say_grows event = record { at = λ w. said_later event w }

answered_later : (event : Event) (result : ℤ) (position : ℕ) (o : Option Memory) (w : World)
    → Later w (world_of (finished event result position o w))
answered_later event result position None w = same_later w
answered_later event result position (Some m) w =
    let x : World = record w { memory = m; position = position } in
    later_on (no_entries w x refl (omega arith) (omega arith)) (said_later event x)

called_later : (called : Called Spot) (w : World) → Later w (world_of (after_call called w))
called_later (Ends_there trap position) w =
    no_entries w (record w { position = position }) refl (omega arith) (omega arith)
called_later (Answers event result position puts) w =
    answered_later event result position (with_writes puts (Some w.memory)) w

pub native_grows : (script : Script) (name : List ℕ) (held : List Held)
    → Grows (call_native script name held)
native_grows script name held =
    record { at = λ w. called_later (native_call script (see w.memory) name held w.position) w }

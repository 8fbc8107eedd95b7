-- What each step of a run keeps: the chain of the calls that are alive, and that all chains that came
-- into being are chains of the program.
use Rattle.std.proofs.Common.{◌≡◌, ◌+◌, ◌≤◌, ℕ, ℤ, List, [], ◌∷◌, Option, None, Some, Bool}
use Rattle.std.proofs.Common.{true, false, refl, sym, ap, subst, ◌∙◌, arith, nat_lt, map, length}
use Rattle.std.specs.Prelude.{All, sum}
use Rattle.std.proofs.lemmas.List.Sums.{sum_by-cons}
use Rattle.std.proofs.lemmas.List.Elements.{All-push}
use Rattle.host_script.specs.declared.script.Script.{Script}
use Rattle.host_script.specs.declared.event.Event.{Event}
use Rattle.host_script.specs.declared.event.End.{End}
use Rattle.host_script.specs.declared.event.End.TheVariants as end
use Rattle.host_script.specs.NativeCall.{Called, Ends_there, Answers, native_call}
use Rattle.pawn_meaning.specs.Program.{Program}
use Rattle.pawn_meaning.specs.Memory.{Memory, Frame, needs_of, live_need, cut_heap}
use Rattle.pawn_meaning.specs.World.{World, chain_of, said, entered, left, but_first}
use Rattle.pawn_meaning.specs.Run.{Outcome, Gives, Stops, More, Run, then_do, ◌>>=◌}
use Rattle.pawn_meaning.specs.Run.{give, stop, or_stop, choose, turn, look, changed, change, say}
use Rattle.pawn_meaning.specs.Run.{leave, with_frame, with_heap}
use Rattle.pawn_meaning.specs.Natives.{Held, Spot, see, with_writes, finished, after_call}
use Rattle.pawn_meaning.specs.Natives.{call_native}
use Rattle.pawn_usage.specs.Chains.{need_at, chain_need}
use Rattle.pawn_usage.proofs.ChainLaws.{IsLive}
use Rattle.pawn_usage.proofs.FrameLaws.{SameFrames, same_frames, KeepsFrames, writes_keep}

-- all chains so far are chains, and the peak is below what bounds all of them
pub record Good (program : Program) (w : World) : Type 0 where
  pub chains : All (IsLive program) w.chains
  pub peak : (cells : ℕ)
      → ((live : List ℕ) → IsLive program live → chain_need program live ≤ cells) → w.peak ≤ cells

-- the calls that are alive, the innermost first
pub record Stands (program : Program) (live : List ℕ) (frames : List Frame) : Type 0 where
  pub functions : chain_of frames ≡ live
  pub needs : needs_of frames ≡ map (need_at program) live

module _ (program : Program) (live : List ℕ) where
  abbrev pub Kept : {A : Type 0} → Outcome A → Type 0
  Kept (Gives a w) = Good program w × Stands program live w.memory.frames
  Kept (Stops e w) = Good program w
  Kept (More w) = Good program w

  -- from a world in which these calls are alive to one in which they are
  pub record Keeps {A : Type 0} (run : Run A) : Type 0 where
    pub at : (w : World) → Good program w → Stands program live w.memory.frames → Kept (run w)

-- another world with the same chains and peak
same_good : {program : Program} (w x : World) → x.chains ≡ w.chains → x.peak ≡ w.peak
    → Good program w → Good program x
same_good {program} w x c p good = record {
  chains = subst (All (IsLive program)) (sym c) good.chains;
  peak = λ cells bounded. subst (λ n. n ≤ cells) (sym p) (good.peak cells bounded);
}

stands_on : {program : Program} {live : List ℕ} (fs gs : List Frame) → Stands program live fs
    → SameFrames fs gs → Stands program live gs
stands_on fs gs s same =
    record { functions = same.functions ∙ s.functions; needs = same.needs ∙ s.needs }

module _ {program : Program} {live : List ℕ} where
  kept_after : {A B : Type 0} (o : Outcome A) (go : A → Run B) → Kept program live o
      → ((a : A) → Keeps program live (go a)) → Kept program live (then_do o go)
  kept_after (Gives a x) go kept rest = (rest a).at x kept.0 kept.1
  kept_after (Stops e x) go kept rest = kept
  kept_after (More x) go kept rest = kept

  pub after_keeps : {A B : Type 0} {run : Run A} {go : A → Run B} → Keeps program live run
      → ((a : A) → Keeps program live (go a)) → Keeps program live (run >>= go)
  after_keeps {run = run} {go = go} first rest =
      record { at = λ w good stands. kept_after (run w) go (first.at w good stands) rest }

  -- ---- the steps

  pub give_keeps : {A : Type 0} (a : A) → Keeps program live (give a)
  give_keeps a = record { at = λ w good stands. (good, stands) }

  pub stop_keeps : {A : Type 0} (e : End) → Keeps program live (stop {A = A} e)
  stop_keeps e = record { at = λ w good stands. good }

  pub more_keeps : {A : Type 0} → Keeps program live {A = A} (λ w. More w)
  more_keeps = record { at = λ w good stands. good }

  pub or_stop_keeps : {A : Type 0} (o : Option A) (e : End) → Keeps program live (or_stop o e)
  or_stop_keeps None e = stop_keeps e
  or_stop_keeps (Some a) e = give_keeps a

  pub look_keeps : {A : Type 0} (f : Memory → Option A) → Keeps program live (look f)
  look_keeps f =
      record { at = λ w good stands. (or_stop_keeps (f w.memory) end.Stray).at w good stands }

  looked : {A B : Type 0} (o : Option A) (go : A → Run B) (w : World)
      → ((a : A) → o ≡ Some a → Keeps program live (go a))
      → Good program w → Stands program live w.memory.frames
      → Kept program live (then_do (or_stop o end.Stray w) go)
  looked None go w rest good stands = good
  looked (Some a) go w rest good stands = (rest a refl).at w good stands

  -- with what was seen
  pub look_then : {A B : Type 0} (f : Memory → Option A) {go : A → Run B}
      → ((m : Memory) (a : A) → f m ≡ Some a → Keeps program live (go a))
      → Keeps program live (look f >>= go)
  look_then f {go = go} rest = record {
    at =
        λ w good stands. looked (f w.memory) go w (λ a e. rest w.memory a e) good stands;
  }

  kept_change : (o : Option Memory) (w : World) → KeepsFrames w.memory.frames o → Good program w
      → Stands program live w.memory.frames → Kept program live (changed o w)
  kept_change None w keeps good stands = good
  kept_change (Some m) w keeps good stands = (
    same_good w (record w { memory = m }) refl refl good,
    stands_on w.memory.frames m.frames stands keeps,
  )

  pub change_keeps : (f : Memory → Option Memory) → ((m : Memory) → KeepsFrames m.frames (f m))
      → Keeps program live (change f)
  change_keeps f keeps = record {
    at = λ w good stands. kept_change (f w.memory) w (keeps w.memory) good stands;
  }

  pub say_keeps : (event : Event) → Keeps program live (say event)
  say_keeps event = record {
    at = λ w good stands. (same_good w (said event w) refl refl good, stands);
  }

  turned : (b : Bool) (limit : ℕ) (w : World) → nat_lt w.turns limit ≡ b → Good program w
      → Stands program live w.memory.frames → Kept program live (turn limit w)
  turned true limit w e good stands =
      rw e (same_good w (record w { turns = w.turns + 1 }) refl refl good, stands)
  turned false limit w e good stands = rw e good

  pub turn_keeps : (limit : ℕ) → Keeps program live (turn limit)
  turn_keeps limit = record { at = λ w good stands. turned _ limit w refl good stands }

  pub choose_keeps : {A : Type 0} (b : Bool) {first second : Run A} → Keeps program live first
      → Keeps program live second → Keeps program live (choose b first second)
  choose_keeps true first second = first
  choose_keeps false first second = second

  pub with_heap_keeps : {A : Type 0} {run : Run A} → Keeps program live run
      → Keeps program live (with_heap run)
  with_heap_keeps run =
      after_keeps (look_keeps (λ m. Some (length m.heap)))
      (λ n. after_keeps run
      (λ a. after_keeps
      (change_keeps (λ m. Some (cut_heap n m)) (λ m. same_frames m.frames))
      (λ _. give_keeps a)))

  answered : (event : Event) (result : ℤ) (position : ℕ) (o : Option Memory) (w : World)
      → KeepsFrames w.memory.frames o → Good program w → Stands program live w.memory.frames
      → Kept program live (finished event result position o w)
  answered event result position None w keeps good stands = good
  answered event result position (Some m) w keeps good stands = (
    same_good w (said event (record w { memory = m; position = position })) refl refl good,
    stands_on w.memory.frames m.frames stands keeps,
  )

  called : (it : Called Spot) (w : World) → Good program w → Stands program live w.memory.frames
      → Kept program live (after_call it w)
  called (Ends_there trap position) w good stands =
      same_good w (record w { position = position }) refl refl good
  called (Answers event result position puts) w good stands =
      answered event result position (with_writes puts (Some w.memory)) w
      (writes_keep puts w.memory.frames (Some w.memory) (same_frames w.memory.frames)) good stands

  pub native_keeps : (script : Script) (name : List ℕ) (held : List Held)
      → Keeps program live (call_native script name held)
  native_keeps script name held = record {
    at = λ w good stands. called (native_call script (see w.memory) name held w.position) w good
        stands;
  }

-- ---- a call

sum_of : (program : Program) (live : List ℕ)
    → sum (map (need_at program) live) ≡ chain_need program live
sum_of program [] = refl
sum_of program (f ∷ fs) =
    sum_by-cons (λ n. n) (need_at program f) (map (need_at program) fs)
    ∙ ap (λ n. need_at program f + n) (sum_of program fs)

module _ (program : Program) (live : List ℕ) (g : ℕ) where
  left_stands : (frames : List Frame) → Stands program (g ∷ live) frames
      → Stands program live (but_first frames)
  left_stands [] stands = absurd (no_frames stands.functions)
    where
      no_frames : [] ≡ g ∷ live → ⊥
      no_frames e = cc
  left_stands (f ∷ fs) stands = record { functions = rest stands.functions; needs = tail stands.needs }
    where
      rest : f.function ∷ chain_of fs ≡ g ∷ live → chain_of fs ≡ live
      rest e = cc

      tail : f.need ∷ needs_of fs ≡ need_at program g ∷ map (need_at program) live
          → needs_of fs ≡ map (need_at program) live
      tail e = cc

  left_kept : {A : Type 0} (o : Outcome A) → Kept program (g ∷ live) o
      → Kept program live (then_do o (λ a. leave >>= (λ _. give a)))
  left_kept (Gives a x) kept = (
    same_good x (left x) refl refl kept.0,
    left_stands x.memory.frames kept.1,
  )
  left_kept (Stops e x) kept = kept
  left_kept (More x) kept = kept

module _ {program : Program} {live : List ℕ} (frame : Frame)
    (need_is : frame.need ≡ need_at program frame.function)
    (is_live : IsLive program (frame.function ∷ live)) where
  entered_stands : (frames : List Frame) → Stands program live frames
      → Stands program (frame.function ∷ live) (frame ∷ frames)
  entered_stands frames stands = record {
    functions = ap (λ xs. frame.function ∷ xs) stands.functions;
    needs =
        ap (λ n. n ∷ needs_of frames) need_is
        ∙ ap (λ xs. need_at program frame.function ∷ xs) stands.needs;
  }

  entered_good : (w : World) → Good program w → Stands program live w.memory.frames
      → Good program (entered frame w)
  entered_good w good stands =
      let s = entered_stands w.memory.frames stands in
      record {
        chains = All-push (IsLive program) w.chains (chain_of (frame ∷ w.memory.frames)) good.chains
            (subst (IsLive program) (sym s.functions) is_live);
        peak = λ cells bounded.
            let need : live_need (frame ∷ w.memory.frames)
            ≡ chain_need program (frame.function ∷ live) =
            ap sum s.needs ∙ sum_of program (frame.function ∷ live) in
            omega (
              arith,
              need,
              good.peak cells bounded,
              bounded (frame.function ∷ live) is_live,
            );
      }

  pub with_frame_keeps : {A : Type 0} {run : Run A} → Keeps program (frame.function ∷ live) run
      → Keeps program live (with_frame frame run)
  with_frame_keeps {run = run} keeps = record {
    at = λ w good stands. left_kept program live frame.function (run (entered frame w))
        (keeps.at (entered frame w) (entered_good w good stands)
        (entered_stands w.memory.frames stands));
  }

-- Runs that do the same in worlds of an outline: one lemma a step.
use Rattle.std.proofs.Common.{◌≡◌, ◌++◌, ◌<◌, ℕ, ℤ, pos}
use Rattle.std.proofs.Common.{negsuc, List, []}
use Rattle.std.proofs.Common.{Bool, true, false, Option, None, Some, IfSome}
use Rattle.std.proofs.Common.{length}
use Rattle.std.proofs.Common.{refl, sym, subst, arith}
use Rattle.std.proofs.Common.{if◌then◌else◌, nat_lt, ◌+◌}
use Rattle.std.proofs.lemmas.Bool.{ltb-true}
use Rattle.host_script.specs.declared.event.End.{End}
use Rattle.host_script.specs.declared.event.End.TheVariants as end
use Rattle.host_script.specs.declared.event.Event.{Event}
use Rattle.host_script.specs.NativeCall.{Trap}
use Rattle.pawn_meaning.specs.Program.{Program}
use Rattle.pawn_meaning.specs.Memory as memory
use Rattle.pawn_meaning.specs.Memory.{Memory, Frame, Place}
use Rattle.pawn_meaning.specs.Memory.{read, write}
use Rattle.pawn_meaning.specs.Memory.{cut_heap}
use Rattle.pawn_meaning.specs.World.{World}
use Rattle.pawn_meaning.specs.Run.{Outcome, Gives, Stops, More, Run, Done, done, then_do, ◌>>=◌}
use Rattle.pawn_meaning.specs.Run.{give, stop}
use Rattle.pawn_meaning.specs.Run.{or_stop, turn, look, changed, change, say, enter, leave}
use Rattle.pawn_meaning.specs.Run.{with_frame}
use Rattle.pawn_meaning.specs.Run.{with_heap, choose}
use Rattle.pawn_meaning.specs.Natives.{Held, Value, Refers}
use Rattle.pawn_meaning.specs.Natives.{end_of}
use Rattle.pawn_meaning.specs.References.{index_in, outside, index}
use Rattle.pawn_meaning.specs.References.{to_cell, refers}
use Rattle.meaning_laws.specs.Missing.{look_or, changed_or, change_or, refers_or}
use Rattle.meaning_laws.proofs.Outlines.{Drawn}
use Rattle.meaning_laws.proofs.Outlines.{FrameIs, Outline}
use Rattle.meaning_laws.proofs.Outlines.{Has}
use Rattle.meaning_laws.proofs.Accesses as found
use Rattle.meaning_laws.proofs.Accesses.{lay, IsFine, IsPlaceOf}

-- nothing is said of a value
abbrev pub Free : {A : Type 0} → A → Type 0
Free a = Unit {0}

-- a value in a world of that outline
abbrev pub To : {A : Type 0} → Outline → (A → Type 0) → Outline → A → Type 0
To k In j a = (j ≡ k) × In a

-- behind a body its frame is still the innermost
abbrev pub Framed : {A : Type 0} → List (List Drawn) → List (List ℕ) → Outline → A → Type 0
Framed outer heap k a = (current : List Drawn) × (k ≡ lay current outer heap)

-- a cell, and no character
abbrev pub IsACell : Place → Type 0
IsACell (memory.Cell name i) = Unit {0}
IsACell (memory.Character name i k) = ⊥

pub free_some : {A : Type 0} (o : Option A) → IfSome o Free
free_some None = tt
free_some (Some a) = tt

in_if : (b : Bool) (i size : ℕ) → nat_lt i size ≡ b
    → IfSome (if b then Some i else None) (λ n. n < size)
in_if true i size e = ltb-true i size e
in_if false i size e = tt

in_size : (size : ℕ) (v : ℤ) → IfSome (index_in size v) (λ n. n < size)
in_size size (pos i) = in_if (nat_lt i size) i size refl
in_size size (negsuc i) = tt

module _ (program : Program) where
  -- what a run gives the other gives too, in a world of an outline
  abbrev pub RelIn : {A : Type 0} → (Outline → A → Type 0) → Outcome A → Outcome A → Type 0
  RelIn Out (Gives a x) r = (r ≡ Gives a x) × ((k : Outline) × Has program k x.memory × Out k a)
  RelIn Out (Stops e x) r = r ≡ Stops e x
  RelIn Out (More x) r = r ≡ More x

  pub record AlikeIn {A : Type 0} (l : Outline) (Out : Outline → A → Type 0) (c d : Run A) : Type 0 where
    pub at : (w : World) → Has program l w.memory → RelIn Out (c w) (d w)

  -- a reference to one cell
  abbrev pub SingleIn : Outline → Held → Type 0
  SingleIn l (Value v) = ⊥
  SingleIn l (Refers r) = (r.sizes ≡ []) × IsFine program l r

  rel_relax : {A : Type 0} (Out Wide : Outline → A → Type 0)
      → ((k : Outline) (a : A) → Out k a → Wide k a) → (o r : Outcome A) → RelIn Out o r → RelIn Wide o r
  rel_relax Out Wide wide (Gives a x) r h = (h.0, (h.1.0, h.1.1, wide h.1.0 a h.1.2))
  rel_relax Out Wide wide (Stops e x) r h = h
  rel_relax Out Wide wide (More x) r h = h

module _ {program : Program} where
  rel_on : {A B : Type 0} (Mid : Outline → A → Type 0) (Out : Outline → B → Type 0) (o r : Outcome A)
      (go go' : A → Run B) → RelIn program Mid o r
      → ((k : Outline) (a : A) → Mid k a → AlikeIn program k Out (go a) (go' a))
      → RelIn program Out (then_do o go) (then_do r go')
  rel_on Mid Out (Gives a x) r go go' b rest =
      subst (λ q. RelIn program Out (go a x) (then_do q go')) (sym b.0)
      ((rest b.1.0 a b.1.2).at x b.1.1)
  rel_on Mid Out (Stops e x) r go go' b rest =
      subst (λ q. then_do q go' ≡ Stops e x) (sym b) refl
  rel_on Mid Out (More x) r go go' b rest = subst (λ q. then_do q go' ≡ More x) (sym b) refl

  pub then_on : {A B : Type 0} {l : Outline} {Mid : Outline → A → Type 0} {Out : Outline → B → Type 0}
      {c d : Run A} {go go' : A → Run B} → AlikeIn program l Mid c d
      → ((k : Outline) (a : A) → Mid k a → AlikeIn program k Out (go a) (go' a))
      → AlikeIn program l Out (c >>= go) (d >>= go')
  then_on {Mid = Mid} {Out = Out} {c = c} {d = d} {go = go} {go' = go'} first rest = record {
    at = λ w h. rel_on Mid Out (c w) (d w) go go' (first.at w h) rest;
  }

  pub after : {A B : Type 0} {l k : Outline} {In : A → Type 0} {Out : Outline → B → Type 0} {c d : Run A}
      {go go' : A → Run B} → AlikeIn program l (To k In) c d
      → ((a : A) → In a → AlikeIn program k Out (go a) (go' a)) → AlikeIn program l Out (c >>= go) (d >>= go')
  after {Out = Out} {go = go} {go' = go'} first rest =
      then_on first (λ j a i. subst (λ z. AlikeIn program z Out (go a) (go' a)) (sym i.0) (rest a i.1))

  pub give_on : {A : Type 0} {l : Outline} {Out : Outline → A → Type 0} (a : A) → Out l a
      → AlikeIn program l Out (give a) (give a)
  give_on {l = l} a i = record { at = λ w h. (refl, (l, h, i)) }

  pub give_to : {A : Type 0} {l : Outline} {In : A → Type 0} (a : A) → In a
      → AlikeIn program l (To l In) (give a) (give a)
  give_to {l = l} {In = In} a i = give_on {Out = To l In} a (refl, i)

  pub free : {A : Type 0} {l : Outline} (a : A) → AlikeIn program {A = A} l (To l Free) (give a) (give a)
  free a = give_to {In = Free} a tt

  pub stop_on : {A : Type 0} {l : Outline} {Out : Outline → A → Type 0} (e : End)
      → AlikeIn program {A = A} l Out (stop e) (stop e)
  stop_on e = record { at = λ w h. refl }

  pub or_stop_to : {A : Type 0} {l : Outline} {In : A → Type 0} (o : Option A) (e : End)
      → IfSome o In → AlikeIn program {A = A} l (To l In) (or_stop o e) (or_stop o e)
  or_stop_to None e i = stop_on e
  or_stop_to (Some a) e i = give_to a i

  pub relax : {A : Type 0} {l : Outline} {Out Wide : Outline → A → Type 0} {c d : Run A}
      → AlikeIn program l Out c d → ((k : Outline) (a : A) → Out k a → Wide k a) → AlikeIn program l Wide c d
  relax {Out = Out} {Wide = Wide} {c = c} {d = d} s wide = record {
    at = λ w h. rel_relax program Out Wide wide (c w) (d w) (s.at w h);
  }

  pub choose_on : {A : Type 0} {l : Outline} {Out : Outline → A → Type 0} (b : Bool) {c d c' d' : Run A}
      → AlikeIn program l Out c d → AlikeIn program l Out c' d' → AlikeIn program l Out (choose b c c') (choose b d d')
  choose_on true first second = first
  choose_on false first second = second

  pub index_to : {l : Outline} (known : Bool) (size : ℕ) (v : ℤ)
      → AlikeIn program l (To l (λ n. n < size)) (index known size v) (index known size v)
  index_to known size v = or_stop_to (index_in size v) (outside known) (in_size size v)

  -- ---- turns, events, frames and temporary arguments

  turned : (l : Outline) (b : Bool) (w : World) → Has program l w.memory
      → RelIn program {A = Done} (To l Free) (if b then Gives done (record w { turns = w.turns + 1 }) else More w)
      (if b then Gives done (record w { turns = w.turns + 1 }) else More w)
  turned l true w h = (refl, (l, h, (refl, tt)))
  turned l false w h = refl

  pub turn_to : {l : Outline} (limit : ℕ) → AlikeIn program {A = Done} l (To l Free) (turn limit) (turn limit)
  turn_to {l = l} limit = record { at = λ w h. turned l (nat_lt w.turns limit) w h }

  pub say_to : {l : Outline} (it : Event) → AlikeIn program {A = Done} l (To l Free) (say it) (say it)
  say_to {l = l} it = record { at = λ w h. (refl, (l, h, (refl, tt))) }

  enter_to : (l : Outline) (drawn : List Drawn) (frame : Frame) → FrameIs drawn frame
      → AlikeIn program {A = Done} l (To (lay drawn l.frames l.heap) Free) (enter frame) (enter frame)
  enter_to l drawn frame f = record {
    at = λ w h. (
      refl,
      (lay drawn l.frames l.heap, found.enters program l w.memory drawn frame h f, (refl, tt)),
    );
  }

  leave_to : (current : List Drawn) (outer : List (List Drawn)) (heap : List (List ℕ))
      → AlikeIn program {A = Done} (lay current outer heap) (To (record { frames = outer; heap = heap }) Free)
      leave leave
  leave_to current outer heap = record {
    at = λ w h. (
      refl,
      (
        record { frames = outer; heap = heap },
        found.leaves program current outer heap w.memory h,
        (refl, tt),
      ),
    );
  }

  pub framed : {A : Type 0} (l : Outline) (drawn : List Drawn) (frame : Frame) → FrameIs drawn frame
      → {c d : Run A} → AlikeIn program (lay drawn l.frames l.heap) (Framed l.frames l.heap) c d
      → AlikeIn program {A = A} l (To l Free) (with_frame frame c) (with_frame frame d)
  framed l drawn frame f s =
      after (enter_to l drawn frame f) (λ x i. then_on s
      (λ k a j. subst (λ z. AlikeIn program z (To l Free) (leave >>= (λ _. give a)) (leave >>= (λ _. give a)))
      (sym j.1) (after (leave_to j.0 l.frames l.heap) (λ y n. free a))))

  count_to : (l : Outline)
      → AlikeIn program l (To l (λ n. n ≡ length l.heap)) (look (λ m. Some (length m.heap)))
      (look (λ m. Some (length m.heap)))
  count_to l = record {
    at = λ w h. (refl, (l, h, (refl, found.heap_count program l w.memory h)));
  }

  cut_to : (l : Outline) (more : List (List ℕ)) (n : ℕ) → n ≡ length l.heap
      → AlikeIn program {A = Done} (record l { heap = l.heap ++ more }) (To l Free)
      (change (λ m. Some (cut_heap n m))) (change (λ m. Some (cut_heap n m)))
  cut_to l more n e = record {
    at = λ w h. (refl, (l, found.cuts program l w.memory more h n e, (refl, tt)));
  }

  heaped : {A : Type 0} (l : Outline) (more : List (List ℕ)) {c d : Run A}
      → AlikeIn program l (To (record l { heap = l.heap ++ more }) Free) c d
      → AlikeIn program {A = A} l (To l Free) (with_heap c) (with_heap d)
  heaped l more s =
      after (count_to l) (λ n i. after s (λ a j. after (cut_to l more n i) (λ y k. free a)))

  pub heaped_at : {A : Type 0} (l k : Outline) (more : List (List ℕ))
      → k ≡ record l { heap = l.heap ++ more } → {c d : Run A} → AlikeIn program l (To k Free) c d
      → AlikeIn program {A = A} l (To l Free) (with_heap c) (with_heap d)
  heaped_at l k more e {c = c} {d = d} s =
      heaped l more (subst (λ z. AlikeIn program l (To z Free) c d) e s)

-- ---- steps that ask for something

module _ {program : Program} (missing : Trap) where
  looked : {A : Type 0} (l : Outline) (In : A → Type 0) (o : Option A) (a : A) → o ≡ Some a → In a
      → (w : World) → Has program l w.memory
      → RelIn program (To l In) (or_stop o end.Stray w) (or_stop o (end_of missing) w)
  looked l In o a e i w h =
      subst (λ q. RelIn program (To l In) (or_stop q end.Stray w) (or_stop q (end_of missing) w)) (sym e)
      (refl, (l, h, (refl, i)))

  pub look_to : {A : Type 0} {l : Outline} {In : A → Type 0} (f : Memory → Option A)
      → ((m : Memory) → Has program l m → (a : A) × (f m ≡ Some a) × In a)
      → AlikeIn program l (To l In) (look f) (look_or missing f)
  look_to {l = l} {In = In} f facts = record {
    at = λ w h.
        let it = facts w.memory h in
        looked l In (f w.memory) it.0 it.1 it.2 w h;
  }

  changes : (k : Outline) (o : Option Memory) → found.Done program k o → (w : World)
      → RelIn program {A = Done} (To k Free) (changed o w) (changed_or missing o w)
  changes k o it w =
      subst (λ q. RelIn program {A = Done} (To k Free) (changed q w) (changed_or missing q w)) (sym it.1)
      (refl, (k, it.2, (refl, tt)))

  pub change_to : {l : Outline} (k : Outline) (f : Memory → Option Memory)
      → ((m : Memory) → Has program l m → found.Done program k (f m))
      → AlikeIn program {A = Done} l (To k Free) (change f) (change_or missing f)
  change_to k f facts = record { at = λ w h. changes k (f w.memory) (facts w.memory h) w }

  pub read_to : {l : Outline} (at : Place) → IsPlaceOf program l at
      → AlikeIn program {A = ℤ} l (To l Free) (look (read at)) (look_or missing (read at))
  read_to {l = l} at f =
      look_to {In = Free} (read at)
      (λ m h. let it = found.is_read program l m at h f in (it.0, it.1, tt))

  write_to : {l : Outline} (at : Place) (v : ℤ) → IsPlaceOf program l at
      → AlikeIn program {A = Done} l (To l Free) (change (write at v)) (change_or missing (write at v))
  write_to {l = l} at v f =
      change_to l (write at v) (λ m h. found.is_written program l m at v h f)

  pub stored : {A : Type 0} {l : Outline} (at : Place) (v : ℤ) (a : A) → IsPlaceOf program l at
      → AlikeIn program {A = A} l (To l Free) (change (write at v) >>= (λ _. give a))
      (change_or missing (write at v) >>= (λ _. give a))
  stored at v a f = after (write_to at v f) (λ x i. free a)

  pub refers_to : {l : Outline} (at : Place) → IsPlaceOf program l at → IsACell at
      → AlikeIn program l (To l (SingleIn program l)) (refers at) (refers_or missing at)
  refers_to (memory.Cell name i) f c =
      let below = f.inside in
      give_to (Refers (to_cell name i)) (
        refl,
        record { sizes = f.sizes; there = f.there; inside = omega (arith, below) },
      )
  refers_to (memory.Character name i k) f c = absurd c

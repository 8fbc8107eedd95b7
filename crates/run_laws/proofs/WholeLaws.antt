-- The trace of a file that agrees with its program is that of the program's meaning.
use Rattle.std.proofs.Common.{◌≡◌, ◌≢◌, ◌⊎◌, inl, inr, ◌+◌, ◌*◌, ◌<◌, ◌≤◌, ℕ, zero, suc, ℤ, pos}
use Rattle.std.proofs.Common.{Bool, true, false, List, [], ◌∷◌, ◌++◌, Option, None, Some, length, map}
use Rattle.std.proofs.Common.{slice_get, refl, sym, ap, subst, ◌∙◌, arith, append_assoc}
use Rattle.std.proofs.Common.{length-append, append-nil, nat_le, leb-true, leb-false}
use Rattle.std.proofs.Common.{mul-le-mul_left}
use Rattle.std.proofs.lemmas.Bool.{false≢true}
use Rattle.std.proofs.lemmas.Bool.Decides.{Decides-int_eq}
use Rattle.std.proofs.lemmas.List.{map-append, length-map}
use Rattle.pawn_cells.specs.Cells.{equal}
use Rattle.host_script.specs.declared.script.Script.{Script}
use Rattle.host_script.specs.declared.event.Event.{Event}
use Rattle.host_script.specs.declared.event.Event.TheVariants.{Native, Slept}
use Rattle.host_script.specs.declared.event.End.{End}
use Rattle.host_script.specs.declared.event.End.TheVariants.{Done, Exit, Error, Stray}
use Rattle.pawn_meaning.specs.World.{Entry}
use Rattle.pawn_meaning.specs.Told.{Last, Ended, Cut, Told, meaning, events_of}
use Rattle.pawn_meaning.specs.Extends.{Rises, GoesOn, Extends}
use Rattle.pawn_meaning.proofs.LaterTurns.{later_turns_extend_lem, turns_never_fall_lem}
use Rattle.amx_ops.specs.declared.amx.Amx.{Amx}
use Rattle.amx_ops.specs.State.{State}
use Rattle.amx_ops.specs.Runs.{Moved, Stop, Steps, Asleep, Over_by, Traced, segment, traced, behind}
use Rattle.amx_ops.specs.Runs.{joined, sleeps}
use Rattle.amx_ops.specs.Moves.{Config, move}
use Rattle.amx_ops.specs.Cuts.{SleepsSo, slept_in}
use Rattle.amx_ops.specs.Trace.{loaded, start_at, begun, trace_by}
use Rattle.amx_ops.proofs.CutLaws.{joined_cut}
use Rattle.amx_ops.proofs.ShownLaws.{joined_shows}
use Rattle.gen_agrees.specs.AgreesOn.{Meanings, IsPrefix, Mark, marks, Is, IsLost, IsShort, Shows}
use Rattle.gen_agrees.specs.AgreesOn.{ShowsUpToStray, AgreesOn, is_cut}
use Rattle.gen_agrees.specs.Gives.{AreAtLeast}
use Rattle.gen_agrees.proofs.GivesLaws.{what_agreement_gives_lem}
use Rattle.run_laws.specs.TraceOf.{HasEnoughSoFar, IsTraceOf}
use Rattle.run_laws.specs.WholeAgreement.{AgreementIsWhole}

-- ---- events

prefix_on : (es fs gs : List Event) → IsPrefix es fs → IsPrefix fs gs → IsPrefix es gs
prefix_on es fs gs a b = record {
  rest = a.rest ++ b.rest;
  all_is = sym (append_assoc es a.rest b.rest) ∙ ap (λ l. l ++ b.rest) a.all_is ∙ b.all_is;
}

slept_on : (es fs : List Event) → slept_in es ≤ slept_in (es ++ fs)
slept_on [] fs = omega arith
slept_on (Native n s r ∷ es) fs = slept_on es fs
slept_on (Slept v t ∷ es) fs = omega (arith, slept_on es fs)

slept_first : (es all : List Event) → IsPrefix es all → slept_in es ≤ slept_in all
slept_first es all p = subst (λ l. slept_in es ≤ slept_in l) p.all_is (slept_on es p.rest)

length_first : (es all : List Event) → IsPrefix es all → length es ≤ length all
length_first es all p = omega (arith, length-append es p.rest, ap length p.all_is)

-- of two fronts of one list the shorter is a front of the other
shorter_of : (es fs xs ys : List Event) → es ++ xs ≡ fs ++ ys → length es ≤ length fs
    → IsPrefix es fs
shorter_of [] fs xs ys e h = record { rest = fs; all_is = refl }
shorter_of (x ∷ es) [] xs ys e h = absurd (omega (arith, h))
shorter_of (x ∷ es) (y ∷ fs) xs ys e h =
    let first : x ≡ y = cc in
    let others : es ++ xs ≡ fs ++ ys = cc in
    let p = shorter_of es fs xs ys others (omega (arith, h)) in
    record { rest = p.rest; all_is = ap (λ z. z ∷ (es ++ p.rest)) first ∙ ap (λ l. y ∷ l) p.all_is }

shorter : (es fs all : List Event) → IsPrefix es all → IsPrefix fs all → length es ≤ length fs
    → IsPrefix es fs
shorter es fs all a b h = shorter_of es fs a.rest b.rest (a.all_is ∙ sym b.all_is) h

-- ---- marks

abbrev marked : List Entry → Mark → List Mark
marked entries last =
    map (λ (entry : Entry). record { turns = entry.turns; peak = entry.peak; is_cut = false })
    entries ++ last ∷ []

peaks_rise : (t p : ℕ) (es : List Entry) (t' p' : ℕ) → Rises t p es t' p' → p ≤ p'
peaks_rise t p [] t' p' r = r.1
peaks_rise t p (e ∷ es) t' p' r = omega (arith, r.1, peaks_rise e.turns e.peak es t' p' r.2)

turns_rise : (t p : ℕ) (es : List Entry) (t' p' : ℕ) → Rises t p es t' p' → t ≤ t'
turns_rise t p [] t' p' r = r.0
turns_rise t p (e ∷ es) t' p' r = omega (arith, r.0, turns_rise e.turns e.peak es t' p' r.2)

-- none is above the last
peak_below : (t p : ℕ) (es : List Entry) (last : Mark) (n : ℕ) (mark : Mark)
    → Rises t p es last.turns last.peak
    → slice_get (marked es last) n ≡ Some mark → mark.peak ≤ last.peak
peak_below t p [] last zero mark r e =
    let same : last ≡ mark = cc in omega (arith, ap (λ (m : Mark). m.peak) same)
peak_below t p [] last (suc n) mark r e = absurd (let no : ⊥ = cc in no)
peak_below t p (x ∷ es) last zero mark r e =
    let same : record { turns = x.turns; peak = x.peak; is_cut = false } ≡ mark = cc in
    omega (
      arith,
      ap (λ (m : Mark). m.peak) same,
      peaks_rise x.turns x.peak es last.turns last.peak r.2,
    )
peak_below t p (x ∷ es) last (suc n) mark r e = peak_below x.turns x.peak es last n mark r.2 e

-- that of an entry isn't above what comes behind it, whatever was added
peak_within : (t p t' p' : ℕ) (es new : List Entry) (last : Mark) (n : ℕ) (mark : Mark)
    → Rises t p es t' p' → n < length es
    → slice_get (marked (es ++ new) last) n ≡ Some mark → mark.peak ≤ p'
peak_within t p t' p' [] new last n mark r h e = absurd (omega (arith, h))
peak_within t p t' p' (x ∷ es) new last zero mark r h e =
    let same : record { turns = x.turns; peak = x.peak; is_cut = false } ≡ mark = cc in
    omega (
      arith,
      ap (λ (m : Mark). m.peak) same,
      peaks_rise x.turns x.peak es t' p' r.2,
    )
peak_within t p t' p' (x ∷ es) new last (suc n) mark r h e =
    peak_within x.turns x.peak t' p' es new last n mark r.2 (omega (arith, h)) e

-- that of the entry after so many events
record MarkAt (es : List Entry) (last : Mark) (n turns : ℕ) : Type 0 where
  mark : Mark
  is : slice_get (marked es last) n ≡ Some mark
  whole : mark.is_cut ≡ false
  below : mark.turns ≤ turns

mark_at : (t p t' p' : ℕ) (es : List Entry) (last : Mark) (n : ℕ) → Rises t p es t' p'
    → n < length es → MarkAt es last n t'
mark_at t p t' p' [] last n r h = absurd (omega (arith, h))
mark_at t p t' p' (x ∷ es) last zero r h = record {
  mark = record { turns = x.turns; peak = x.peak; is_cut = false };
  is = refl;
  whole = refl;
  below = turns_rise x.turns x.peak es t' p' r.2;
}
mark_at t p t' p' (x ∷ es) last (suc n) r h =
    let m = mark_at x.turns x.peak t' p' es last n r.2 (omega (arith, h)) in
    record { mark = m.mark; is = m.is; whole = m.whole; below = m.below }

-- ---- two bounds on turns

either_by : (m n : ℕ) (b : Bool) → nat_le m n ≡ b → (m ≤ n) ⊎ (n < m)
either_by m n true e = inl (leb-true m n e)
either_by m n false e = inr (omega (arith, leb-false m n e))

either : (m n : ℕ) → (m ≤ n) ⊎ (n < m)
either m n = either_by m n (nat_le m n) refl

-- a meaning goes on to another, or is the same
abbrev IsOn : ℕ → Told → Told → Type 0
IsOn a first more = (more ≡ first) ⊎ GoesOn (a + 1) first more

on_by : (a : ℕ) (first more : Told) (last : Last) → Extends a first last more → IsOn a first more
on_by a first more (Ended e) x = inl x.1
on_by a first more Cut x = x.1

prefix_by : (a : ℕ) (first more : Told) → IsOn a first more
    → IsPrefix (events_of first.entries) (events_of more.entries)
prefix_by a first more (inl same) =
    record {
      rest = [];
      all_is = append-nil (events_of first.entries)
          ∙ ap (λ (t : Told). events_of t.entries) (sym same);
    }
prefix_by a first more (inr on) = record {
  rest = events_of on.new;
  all_is =
      sym (map-append (λ (entry : Entry). entry.event) first.entries on.new)
      ∙ ap events_of (sym on.entries);
}

peak_by : (a : ℕ) (first more : Told) → IsOn a first more → first.peak ≤ more.peak
peak_by a first more (inl same) = omega (arith, ap (λ (t : Told). t.peak) same)
peak_by a first more (inr on) =
    peaks_rise (a + 1) first.peak on.new more.turns more.peak on.rises

abbrev last_mark : Told → Mark
last_mark told =
    record { turns = told.turns; peak = told.peak; is_cut = is_cut told.last }

-- the mark of an entry in what goes on
peak_on : (a : ℕ) (first more : Told) (n : ℕ) (mark : Mark)
    → Rises 0 0 first.entries first.turns first.peak → IsOn a first more
    → n < length first.entries → slice_get (marks more) n ≡ Some mark → mark.peak ≤ first.peak
peak_on a first more n mark r (inl same) h e =
    let P : Told → Type 0 = λ t. slice_get (marks t) n ≡ Some mark in
    peak_below 0 0 first.entries (last_mark first) n mark r (subst P same e)
peak_on a first more n mark r (inr on) h e =
    let P : List Entry → Type 0 =
    λ es. slice_get (marked es (last_mark more)) n ≡ Some mark in
    peak_within 0 0 first.turns first.peak first.entries on.new (last_mark more) n mark r h
    (subst P on.entries e)

-- ---- ends

-- an end is error 3 or another one
abbrev IsThree : End → Type 0
IsThree e = (e ≡ Error (pos 3)) ⊎ (e ≢ Error (pos 3))

abbrev code_of : End → ℤ
code_of e = elim e [ Done v ↦ pos 0 | Exit v t ↦ pos 0 | Error c ↦ c | Stray ↦ pos 0 ]

three_by : (code : ℤ) (b : Bool) → equal code (pos 3) ≡ b → IsThree (Error code)
three_by code true e = inl (ap Error ((Decides-int_eq code (pos 3)).0 e))
three_by code false e =
    inr (λ same. absurd (false≢true (sym e ∙ (Decides-int_eq code (pos 3)).1 (ap code_of same))))

no_done : (v : ℤ) → Done v ≡ Error (pos 3) → ⊥
no_done v e = cc

no_exit : (v tag : ℤ) → Exit v tag ≡ Error (pos 3) → ⊥
no_exit v tag e = cc

no_stray : Stray ≡ Error (pos 3) → ⊥
no_stray e = cc

three_or : (e : End) → IsThree e
three_or (Done v) = inr (no_done v)
three_or (Exit v tag) = inr (no_exit v tag)
three_or Stray = inr no_stray
three_or (Error code) = three_by code (equal code (pos 3)) refl

-- ---- one bound on turns, at which no stray access was met

module _ (means : Meanings) (extends : (a b : ℕ) → a ≤ b
    → Extends a (means a) (means a).last (means b))
    (rises : (a : ℕ) → Rises 0 0 (means a).entries (means a).turns (means a).peak)
    (limit : ℕ) (astray : (means limit).last ≢ Ended Stray)
    (cells room : ℕ) (t : Traced Config End) (agrees : AgreesOn means cells room t) where
  abbrev meant : List Event
  meant = events_of (means limit).entries

  abbrev shown : List Event
  shown = t.config.events

  size : (k : ℕ) → length (events_of (means k).entries) ≡ length (means k).entries
  size k = length-map (means k).entries (λ (entry : Entry). entry.event)

  on : (a b : ℕ) → a ≤ b → IsOn a (means a) (means b)
  on a b h = on_by a (means a) (means b) (means a).last (extends a b h)

  front : (a b : ℕ) → a ≤ b → IsPrefix (events_of (means a).entries) (events_of (means b).entries)
  front a b h = prefix_by a (means a) (means b) (on a b h)

  same_by : (k : ℕ) (e : End) (last : Last) → last ≡ Ended e → Extends k (means k) last (means limit)
      → means limit ≡ means k
  same_by k e (Ended x) is h = h.1
  same_by k e Cut is h = absurd (let no : ⊥ = cc in no)

  -- an end that came before is the end
  same : (k : ℕ) (e : End) → k ≤ limit → (means k).last ≡ Ended e → means limit ≡ means k
  same k e h is = same_by k e (means k).last is (extends k limit h)

  not_stray : (k : ℕ) → k ≤ limit → (means k).last ≡ Ended Stray → ⊥
  not_stray k h is =
      astray (ap (λ (told : Told). told.last) (same k Stray h is) ∙ is)

  -- what is shown and what is meant so far are fronts of one another
  abbrev Compared : Type 0
  Compared = IsPrefix meant shown ⊎ (IsPrefix shown meant × (length shown < length meant))

  by_lengths : (all : List Event) → IsPrefix meant all → IsPrefix shown all
      → (length meant ≤ length shown) ⊎ (length shown < length meant) → Compared
  by_lengths all a b (inl h) = inl (shorter meant shown all a b h)
  by_lengths all a b (inr h) = inr (shorter shown meant all b a (omega (arith, h)), h)

  shows_by : (k : ℕ) → IsPrefix shown (events_of (means k).entries)
      → (limit ≤ k) ⊎ (k < limit) → Compared
  shows_by k p (inl h) =
      by_lengths (events_of (means k).entries) (front limit k h) p
      (either (length meant) (length shown))
  shows_by k p (inr h) =
      by_lengths meant (record { rest = []; all_is = append-nil meant })
      (prefix_on shown (events_of (means k).entries) meant p (front k limit (omega (arith, h))))
      (either (length meant) (length shown))

  stray_by : (s : ShowsUpToStray means shown) → (limit ≤ s.limit) ⊎ (s.limit < limit) → Compared
  stray_by s (inl h) =
      inl (prefix_on meant (events_of (means s.limit).entries) shown (front limit s.limit h)
      s.first)
  stray_by s (inr h) = absurd (not_stray s.limit (omega (arith, h)) s.is_stray)

  compared_by : Shows means shown ⊎ ShowsUpToStray means shown → Compared
  compared_by (inl s) = shows_by s.limit s.first (either limit s.limit)
  compared_by (inr s) = stray_by s (either limit s.limit)

  -- ---- fewer events were shown than are meant

  module _ (few : length shown < length meant) (deep : (means limit).peak + 16 ≤ room) where
    no_more : (k : ℕ) → limit ≤ k → length (events_of (means k).entries) ≤ length shown → ⊥
    no_more k h less =
        omega (arith, few, less, length_first meant (events_of (means k).entries) (front limit k h))

    lost_by : (lost : IsLost means (length shown)) → (limit ≤ lost.limit) ⊎ (lost.limit < limit) → ⊥
    lost_by lost (inl h) = no_more lost.limit h (omega (arith, lost.within, size lost.limit))
    lost_by lost (inr h) = not_stray lost.limit (omega (arith, h)) lost.is_stray

    not_lost : IsLost means (length shown) → ⊥
    not_lost lost = lost_by lost (either limit lost.limit)

    is_by : (e : End) (is : Is means shown e) → (limit ≤ is.limit) ⊎ (is.limit < limit) → ⊥
    is_by e is (inl h) = no_more is.limit h (omega (arith, ap length is.events_are))
    is_by e is (inr h) =
        omega (
          arith,
          few,
          ap length is.events_are,
          ap (λ (told : Told). length (events_of told.entries))
              (same is.limit e (omega (arith, h)) is.end_is),
        )

    not_is : (e : End) → Is means shown e → ⊥
    not_is e is = is_by e is (either limit is.limit)

    short_by : (s : IsShort means (length shown) room) → (limit ≤ s.limit) ⊎ (s.limit < limit) → ⊥
    short_by s (inl h) =
        omega (
          arith,
          deep,
          s.deep,
          peak_on limit (means limit) (means s.limit) (length shown) s.mark (rises limit)
              (on limit s.limit h) (omega (arith, few, size limit)) s.next,
        )
    short_by s (inr h) =
        omega (
          arith,
          deep,
          s.deep,
          peak_below 0 0 (means s.limit).entries (last_mark (means s.limit)) (length shown) s.mark
              (rises s.limit) s.next,
          peak_by s.limit (means s.limit) (means limit)
              (on s.limit limit (omega (arith, h))),
        )

    not_short : IsShort means (length shown) room → ⊥
    not_short s = short_by s (either limit s.limit)

    -- no end came
    stack_by : IsLost means (length shown)
        ⊎ (Is means shown (Error (pos 3)) ⊎ IsShort means (length shown) room) → ⊥
    stack_by (inl lost) = not_lost lost
    stack_by (inr (inl is)) = not_is (Error (pos 3)) is
    stack_by (inr (inr s)) = not_short s

    end_by : (e : End) → IsLost means (length shown) ⊎ Is means shown e → ⊥
    end_by e (inl lost) = not_lost lost
    end_by e (inr is) = not_is e is

    over_by : (e : End) → t.stop ≡ Over_by e → IsThree e → ⊥
    over_by e is (inr other) = end_by e (agrees.end e is other)
    over_by e is (inl three) = stack_by (agrees.stack (is ∙ ap Over_by three))

    -- and no bound was used up
    module _ (enough : cells * ((means limit).turns + 1) ≤ t.bound) where
      at : MarkAt (means limit).entries (last_mark (means limit)) (length shown) (means limit).turns
      at =
          mark_at 0 0 (means limit).turns (means limit).peak (means limit).entries
          (last_mark (means limit)) (length shown) (rises limit) (omega (arith, few, size limit))

      steps_by : IsLost means (length shown) ⊎ (t.bound < cells * (at.mark.turns + 1)) → ⊥
      steps_by (inl lost) = not_lost lost
      steps_by (inr less) =
          let h : at.mark.turns + 1 ≤ (means limit).turns + 1 = omega (arith, at.below) in
          omega (arith, less, enough, mul-le-mul_left cells h)

      steps_no : t.stop ≡ Steps → ⊥
      steps_no is = steps_by (agrees.steps is limit at.mark at.is at.whole)

-- ---- the trace

-- what follows a first segment
abbrev after_stop : {C E : Type 0} → (C → Moved C E) → ℕ → ℕ → List ℕ → C → Stop E → Traced C E
after_stop mv bound next bounds c Steps = traced bound (segment mv bound 0 c)
after_stop mv bound next bounds c Asleep =
    behind (segment mv bound 0 c).steps (joined mv next bounds (segment mv bound 0 c).config)
after_stop mv bound next bounds c (Over_by e) = traced bound (segment mv bound 0 c)

joined_is : {C E : Type 0} (mv : C → Moved C E) (bound next : ℕ) (bounds : List ℕ) (c : C)
    (stop : Stop E) → (segment mv bound 0 c).stop ≡ stop
    → joined mv bound (next ∷ bounds) c ≡ after_stop mv bound next bounds c stop
joined_is mv bound next bounds c Steps e = ap (λ s. elim s [
  | Steps ↦ traced bound (segment mv bound 0 c)
  | Asleep ↦ behind (segment mv bound 0 c).steps
      (joined mv next bounds (segment mv bound 0 c).config)
  | Over_by e ↦ traced bound (segment mv bound 0 c)
]) e
joined_is mv bound next bounds c Asleep e = ap (λ s. elim s [
  | Steps ↦ traced bound (segment mv bound 0 c)
  | Asleep ↦ behind (segment mv bound 0 c).steps
      (joined mv next bounds (segment mv bound 0 c).config)
  | Over_by e ↦ traced bound (segment mv bound 0 c)
]) e
joined_is mv bound next bounds c (Over_by x) e = ap (λ s. elim s [
  | Steps ↦ traced bound (segment mv bound 0 c)
  | Asleep ↦ behind (segment mv bound 0 c).steps
      (joined mv next bounds (segment mv bound 0 c).config)
  | Over_by e ↦ traced bound (segment mv bound 0 c)
]) e

-- its last bound is one of the bounds
bound_by : {C E : Type 0} (mv : C → Moved C E) (least bound next : ℕ) (bounds : List ℕ) (c : C)
    → least ≤ bound
    → ((d : C) → least ≤ (joined mv next bounds d).bound) → (stop : Stop E)
    → least ≤ (after_stop mv bound next bounds c stop).bound
bound_by mv least bound next bounds c h rest Steps = h
bound_by mv least bound next bounds c h rest Asleep = rest (segment mv bound 0 c).config
bound_by mv least bound next bounds c h rest (Over_by e) = h

last_bound : {C E : Type 0} (mv : C → Moved C E) (least bound : ℕ) (bounds : List ℕ) (c : C)
    → AreAtLeast least (bound ∷ bounds)
    → least ≤ (joined mv bound bounds c).bound
last_bound mv least bound [] c h = h.0
last_bound mv least bound (next ∷ bounds) c h =
    rw (joined_is mv bound next bounds c (segment mv bound 0 c).stop refl)
    (bound_by mv least bound next bounds c h.0 (λ d. last_bound mv least next bounds d h.1)
    (segment mv bound 0 c).stop)

asleep_clash : (e : End) → Over_by e ≡ Asleep → ⊥
asleep_clash e p = cc

-- a trace that was started, or not
module _ (amx : Amx) (script : Script) (idle : State) (least bound : ℕ) (bounds : List ℕ) where
  abbrev trace_of : Option State → Traced Config End
  trace_of o = trace_by amx script idle o bound bounds

  bound_enough : (o : Option State) → AreAtLeast least (bound ∷ bounds) → least ≤ (trace_of o).bound
  bound_enough None h = h.0
  bound_enough (Some s) h = last_bound (move amx script) least bound bounds (begun s) h

  asleep_shows : (o : Option State) → (trace_of o).stop ≡ Asleep
      → slept_in (trace_of o).config.events ≡ suc (length bounds)
  asleep_shows None is = absurd (asleep_clash (Error (pos 3)) is)
  asleep_shows (Some s) is =
      let c : Config = begun s in
      let t = joined (move amx script) bound bounds c in
      let so : sleeps (move amx script) t.steps c ≡ suc (length bounds) =
      subst (λ stop. SleepsSo stop (sleeps (move amx script) t.steps c) (suc (length bounds))) is
      (joined_cut (move amx script) bound bounds c).sleeps_so in
      omega (arith, joined_shows amx script bound bounds c, so)

module _ (means : Meanings) (extends : (a b : ℕ) → a ≤ b
    → Extends a (means a) (means a).last (means b))
    (rises : (a : ℕ) → Rises 0 0 (means a).entries (means a).turns (means a).peak)
    (limit : ℕ) (cells room : ℕ) (amx : Amx) (script : Script) (idle : State)
    (bound : ℕ) (bounds : List ℕ)
    (enough : HasEnoughSoFar (means limit) cells room (bound ∷ bounds)) (o : Option State)
    (agrees : AgreesOn means cells room (trace_by amx script idle o bound bounds)) where
  abbrev t : Traced Config End
  t = trace_by amx script idle o bound bounds

  abbrev all : List Event
  all = events_of (means limit).entries

  none_fewer : IsPrefix t.config.events all → length t.config.events < length all
      → (stop : Stop End) → t.stop ≡ stop → ⊥
  none_fewer p few (Over_by e) is =
      over_by means extends rises limit enough.astray cells room t agrees few enough.room_enough e
      is (three_or e)
  none_fewer p few Steps is =
      steps_no means extends rises limit enough.astray cells room t agrees few enough.room_enough
      (bound_enough amx script idle (cells * ((means limit).turns + 1)) bound bounds o
      enough.bounds_enough) is
  none_fewer p few Asleep is =
      omega (
        arith,
        enough.sleeps,
        asleep_shows amx script idle 0 bound bounds o is,
        slept_first t.config.events all p,
      )

  shows_by_stop : IsPrefix all t.config.events
      ⊎ (IsPrefix t.config.events all × (length t.config.events < length all))
      → IsPrefix all t.config.events
  shows_by_stop (inl p) = p
  shows_by_stop (inr (p, few)) = absurd (none_fewer p few t.stop refl)

  shows : IsPrefix all t.config.events
  shows =
      shows_by_stop (compared_by means extends rises limit enough.astray cells room t agrees
      agrees.prefix)

pub agreement_is_whole_lem : AgreementIsWhole
agreement_is_whole_lem program amx agrees script room entry f address bound bounds keeps serves
    within function_is address_is =
    let idle : State = loaded amx room in
    let on : AgreesOn (meaning program script f) (length amx.code) room
    (trace_by amx script idle (start_at amx address [] idle) bound bounds) =
    agrees.runs script room entry f address bound bounds keeps serves within function_is
    address_is in
    record {
      agrees = on;
      whole = λ limit end enough.
          what_agreement_gives_lem program amx agrees script room entry f address bound bounds
          keeps serves within function_is address_is limit end enough;
      so_far = λ limit enough.
          shows (meaning program script f)
          (λ a b h. later_turns_extend_lem program script f a b h)
          (λ a. turns_never_fall_lem program script f a)
          limit (length amx.code) room amx script idle bound bounds enough
          (start_at amx address [] idle) on;
    }

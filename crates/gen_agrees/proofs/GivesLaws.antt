-- With room and bounds enough a file shows all that its program means, and ends so. This stands on
-- the relation alone, on the laws of meanings, and on where a trace is cut.
use Rattle.std.proofs.Common.{◌≡◌, ◌≢◌, ◌⊎◌, inl, inr, ◌+◌, ◌*◌, ◌<◌, ◌≤◌, ℕ, zero, suc, ℤ, pos}
use Rattle.std.proofs.Common.{negsuc, Bool, true, false, List, [], ◌∷◌, ◌++◌, Option, None, Some}
use Rattle.std.proofs.Common.{length, map, slice_get, refl, sym, ap, subst, ◌∙◌, arith}
use Rattle.std.proofs.Common.{append_assoc, length-append, append-nil, nat_le, leb-true, leb-false}
use Rattle.std.proofs.Common.{nat_eq, mul-le-mul_left}
use Rattle.std.proofs.lemmas.Bool.{eqb-true, eqb-false}
use Rattle.std.proofs.lemmas.List.{map-append, length-map}
use Rattle.host_script.specs.declared.script.Script.{Script}
use Rattle.host_script.specs.declared.event.Event.{Event}
use Rattle.host_script.specs.declared.event.Event.TheVariants.{Native, Slept}
use Rattle.host_script.specs.declared.event.End.{End}
use Rattle.host_script.specs.declared.event.End.TheVariants.{Done, Exit, Error, Stray}
use Rattle.pawn_meaning.specs.World.{Entry}
use Rattle.pawn_meaning.specs.Told.{Last, Ended, Cut, Told, meaning, events_of}
use Rattle.pawn_meaning.specs.Extends.{Rises, GoesOn, Extends}
use Rattle.pawn_meaning.proofs.LaterTurns.{later_turns_extend_lem, turns_never_fall_lem}
use Rattle.amx_ops.specs.declared.amx.Amx.{Amx}
use Rattle.amx_ops.specs.State.{State}
use Rattle.amx_ops.specs.Runs.{Moved, Stop, Steps, Asleep, Over_by, Traced, segment, traced, behind}
use Rattle.amx_ops.specs.Runs.{joined, sleeps}
use Rattle.amx_ops.specs.Moves.{Config, move}
use Rattle.amx_ops.specs.Cuts.{SleepsSo, slept_in}
use Rattle.amx_ops.specs.Trace.{loaded, start_at, begun, trace_by, trace_from}
use Rattle.amx_ops.proofs.CutLaws.{joined_cut}
use Rattle.amx_ops.proofs.ShownLaws.{joined_shows}
use Rattle.gen_agrees.specs.Agrees.{Agrees}
use Rattle.gen_agrees.specs.AgreesOn.{Meanings, IsPrefix, Mark, marks, is_cut, Is, IsLost, IsShort}
use Rattle.gen_agrees.specs.AgreesOn.{Shows, ShowsUpToStray, AgreesOn}
use Rattle.gen_agrees.specs.Gives.{AreAtLeast, HasEnough, EndsAs, WhatAgreementGives}

-- ---- events

prefix_on : (es fs gs : List Event) → IsPrefix es fs → IsPrefix fs gs → IsPrefix es gs
prefix_on es fs gs a b = record {
  rest = a.rest ++ b.rest;
  all_is = sym (append_assoc es a.rest b.rest) ∙ ap (λ l. l ++ b.rest) a.all_is ∙ b.all_is;
}

slept_on : (es fs : List Event) → slept_in es ≤ slept_in (es ++ fs)
slept_on [] fs = omega arith
slept_on (Native n s r ∷ es) fs = slept_on es fs
slept_on (Slept v t ∷ es) fs = omega (arith, slept_on es fs)

slept_first : (es all : List Event) → IsPrefix es all → slept_in es ≤ slept_in all
slept_first es all p = subst (λ l. slept_in es ≤ slept_in l) p.all_is (slept_on es p.rest)

length_first : (es all : List Event) → IsPrefix es all → length es ≤ length all
length_first es all p = omega (arith, length-append es p.rest, ap length p.all_is)

-- ---- marks, of which none is above the last

abbrev marked : List Entry → Mark → List Mark
marked entries last =
    map (λ (entry : Entry). record { turns = entry.turns; peak = entry.peak; is_cut = false })
    entries ++ last ∷ []

peaks_rise : (t p : ℕ) (es : List Entry) (t' p' : ℕ) → Rises t p es t' p' → p ≤ p'
peaks_rise t p [] t' p' r = r.1
peaks_rise t p (e ∷ es) t' p' r = omega (arith, r.1, peaks_rise e.turns e.peak es t' p' r.2)

turns_rise : (t p : ℕ) (es : List Entry) (t' p' : ℕ) → Rises t p es t' p' → t ≤ t'
turns_rise t p [] t' p' r = r.0
turns_rise t p (e ∷ es) t' p' r = omega (arith, r.0, turns_rise e.turns e.peak es t' p' r.2)

peak_below : (t p : ℕ) (es : List Entry) (last : Mark) (n : ℕ) (mark : Mark)
    → Rises t p es last.turns last.peak
    → slice_get (marked es last) n ≡ Some mark → mark.peak ≤ last.peak
peak_below t p [] last zero mark r e =
    let same : last ≡ mark = cc in omega (arith, ap (λ (m : Mark). m.peak) same)
peak_below t p [] last (suc n) mark r e = absurd (let no : ⊥ = cc in no)
peak_below t p (x ∷ es) last zero mark r e =
    let same : record { turns = x.turns; peak = x.peak; is_cut = false } ≡ mark = cc in
    omega (
      arith,
      ap (λ (m : Mark). m.peak) same,
      peaks_rise x.turns x.peak es last.turns last.peak r.2,
    )
peak_below t p (x ∷ es) last (suc n) mark r e = peak_below x.turns x.peak es last n mark r.2 e

-- the mark after so many events
record MarkAt (es : List Entry) (last : Mark) (n : ℕ) : Type 0 where
  mark : Mark
  is : slice_get (marked es last) n ≡ Some mark
  whole : mark.is_cut ≡ false
  below : mark.turns ≤ last.turns

mark_at : (t p : ℕ) (es : List Entry) (last : Mark) (n : ℕ) → Rises t p es last.turns last.peak
    → last.is_cut ≡ false → n ≤ length es
    → MarkAt es last n
mark_at t p [] last zero r whole h =
    record { mark = last; is = refl; whole = whole; below = omega arith }
mark_at t p [] last (suc n) r whole h = absurd (omega (arith, h))
mark_at t p (x ∷ es) last zero r whole h = record {
  mark = record { turns = x.turns; peak = x.peak; is_cut = false };
  is = refl;
  whole = refl;
  below = turns_rise x.turns x.peak es last.turns last.peak r.2;
}
mark_at t p (x ∷ es) last (suc n) r whole h =
    let m = mark_at x.turns x.peak es last n r.2 whole (omega (arith, h)) in
    record { mark = m.mark; is = m.is; whole = m.whole; below = m.below }

-- ---- numbers

either_by : (m n : ℕ) (b : Bool) → nat_le m n ≡ b → (m ≤ n) ⊎ (n ≤ m)
either_by m n true e = inl (leb-true m n e)
either_by m n false e = inr (omega (arith, leb-false m n e))

either : (m n : ℕ) → (m ≤ n) ⊎ (n ≤ m)
either m n = either_by m n (nat_le m n) refl

-- an end is error 3 or another one
abbrev IsThree : End → Type 0
IsThree e = (e ≡ Error (pos 3)) ⊎ (e ≢ Error (pos 3))

three_or : (e : End) → IsThree e
three_or (Done v) = inr (λ same. no_done v same)
  where
    no_done : (v : ℤ) → Done v ≡ Error (pos 3) → ⊥
    no_done v e = cc
three_or (Exit v tag) = inr (λ same. no_exit v tag same)
  where
    no_exit : (v tag : ℤ) → Exit v tag ≡ Error (pos 3) → ⊥
    no_exit v tag e = cc
three_or Stray = inr (λ same. no_stray same)
  where
    no_stray : Stray ≡ Error (pos 3) → ⊥
    no_stray e = cc
three_or (Error (negsuc n)) = inr (λ same. no_below n same)
  where
    no_below : (n : ℕ) → Error (negsuc n) ≡ Error (pos 3) → ⊥
    no_below n e = cc
three_or (Error (pos n)) = by_number n (nat_eq n 3) refl
  where
    code_of : End → ℕ
    code_of e =
        elim e [
          | Done v ↦ 0
          | Exit v t ↦ 0
          | Error c ↦ elim c [ pos k ↦ k | negsuc k ↦ 0 ]
          | Stray ↦ 0
        ]

    by_number : (n : ℕ) (b : Bool) → nat_eq n 3 ≡ b → IsThree (Error (pos n))
    by_number n true e = inl (ap (λ k. Error (pos k)) (eqb-true n 3 e))
    by_number n false e = inr (λ same. eqb-false n 3 e (ap code_of same))

-- ---- one meaning for all bounds on turns

module _ (means : Meanings) (extends : (a b : ℕ) → a ≤ b
    → Extends a (means a) (means a).last (means b))
    (rises : (a : ℕ) → Rises 0 0 (means a).entries (means a).turns (means a).peak)
    (limit : ℕ) (end : End) (ended : (means limit).last ≡ Ended end) where
  -- a meaning for another bound is the same, or is cut and goes on to it
  abbrev IsFront : ℕ → Type 0
  IsFront k =
      (means k ≡ means limit) ⊎ (((means k).last ≡ Cut) × GoesOn (k + 1) (means k) (means limit))

  cut_or_ended : (e : End) → Cut ≡ Ended e → ⊥
  cut_or_ended e p = cc

  before : (k : ℕ) (last : Last) → (means k).last ≡ last → Extends k (means k) last (means limit)
      → IsFront k
  before k (Ended e) is x = inl (sym x.1)
  before k Cut is (turns, inl same) = inl (sym same)
  before k Cut is (turns, inr on) = inr (is, on)

  front : (k : ℕ) → IsFront k
  front k = elim (either limit k) [
    | inl later ↦ inl (subst (λ last. Extends limit (means limit) last (means k)) ended
        (extends limit k later)).1
    | inr sooner ↦ before k (means k).last refl (extends k limit sooner)
  ]

  -- an end is the end
  same_of_ended : (k : ℕ) (e : End) → (means k).last ≡ Ended e → means k ≡ means limit
  same_of_ended k e is = by_front (front k)
    where
      by_front : IsFront k → means k ≡ means limit
      by_front (inl same) = same
      by_front (inr (cut, on)) = absurd (cut_or_ended e (sym cut ∙ is))

  ended_is : (k : ℕ) (e : End) → (means k).last ≡ Ended e → e ≡ end
  ended_is k e is =
      let both : Ended e ≡ Ended end =
      sym is ∙ ap (λ (t : Told). t.last) (same_of_ended k e is) ∙ ended in cc

  -- events are the first ones, and no live call needs more
  prefix_by : (k : ℕ) → IsFront k
      → IsPrefix (events_of (means k).entries) (events_of (means limit).entries)
  prefix_by k (inl same) =
      record {
        rest = [];
        all_is = append-nil (events_of (means k).entries)
            ∙ ap (λ (t : Told). events_of t.entries) same;
      }
  prefix_by k (inr (cut, on)) = record {
    rest = events_of on.new;
    all_is =
        sym (map-append (λ (entry : Entry). entry.event) (means k).entries on.new)
        ∙ ap events_of (sym on.entries);
  }

  peak_by : (k : ℕ) → IsFront k → (means k).peak ≤ (means limit).peak
  peak_by k (inl same) = omega (arith, ap (λ (t : Told). t.peak) same)
  peak_by k (inr (cut, on)) =
      peaks_rise (k + 1) (means k).peak on.new (means limit).turns (means limit).peak on.rises

  module _ (astray : end ≢ Stray) where
    not_lost : {A : Type 0} (count : ℕ) → IsLost means count → A
    not_lost count lost = absurd (astray (sym (ended_is lost.limit Stray lost.is_stray)))

    module _ (cells room : ℕ) (t : Traced Config End) (agrees : AgreesOn means cells room t) where
      shown_by : Shows means t.config.events ⊎ ShowsUpToStray means t.config.events
          → IsPrefix t.config.events (events_of (means limit).entries)
      shown_by (inl s) = prefix_on _ _ _ s.first (prefix_by s.limit (front s.limit))
      shown_by (inr s) = absurd (astray (sym (ended_is s.limit Stray s.is_stray)))

      shown : IsPrefix t.config.events (events_of (means limit).entries)
      shown = shown_by agrees.prefix

      same_end : (e : End) → Is means t.config.events e
          → (e ≡ end) × (t.config.events ≡ events_of (means limit).entries)
      same_end e is = (
        ended_is is.limit e is.end_is,
        sym is.events_are ∙ ap (λ (told : Told). events_of told.entries)
            (same_of_ended is.limit e is.end_is),
      )

      -- an end is that of the meaning
      over_by : (e : End) → t.stop ≡ Over_by e → (means limit).peak + 16 ≤ room → IsThree e
          → EndsAs (means limit) end t
      over_by e is deep (inr other) = by_end (agrees.end e is other)
        where
          by_end : IsLost means (length t.config.events) ⊎ Is means t.config.events e
              → EndsAs (means limit) end t
          by_end (inl lost) = not_lost (length t.config.events) lost
          by_end (inr found) =
              let both =
              same_end e found in record { stops = is ∙ ap Over_by both.0; events = both.1 }
      over_by e is deep (inl three) = by_stack (agrees.stack (is ∙ ap Over_by three))
        where
          by_stack : IsLost means (length t.config.events)
              ⊎ (Is means t.config.events (Error (pos 3))
              ⊎ IsShort means (length t.config.events) room)
              → EndsAs (means limit) end t
          by_stack (inl lost) = not_lost (length t.config.events) lost
          by_stack (inr (inl found)) =
              let both = same_end (Error (pos 3)) found in
              record { stops = is ∙ ap Over_by (three ∙ both.0); events = both.1 }
          by_stack (inr (inr short)) =
              let last : Mark =
              record {
                turns = (means short.limit).turns;
                peak = (means short.limit).peak;
                is_cut = is_cut (means short.limit).last;
              } in
              absurd (omega (
                arith,
                deep,
                short.deep,
                peak_below 0 0 (means short.limit).entries last (length t.config.events) short.mark
                    (rises short.limit) short.next,
                peak_by short.limit (front short.limit),
              ))

      -- a bound isn't used up
      steps_no : t.stop ≡ Steps → cells * ((means limit).turns + 1) ≤ t.bound → ⊥
      steps_no is enough = by_steps (agrees.steps is limit at.mark at.is at.whole)
        where
          last : Mark
          last =
              record {
                turns = (means limit).turns;
                peak = (means limit).peak;
                is_cut = is_cut (means limit).last;
              }

          count : length (events_of (means limit).entries) ≡ length (means limit).entries
          count = length-map (means limit).entries (λ (entry : Entry). entry.event)

          at : MarkAt (means limit).entries last (length t.config.events)
          at =
              mark_at 0 0 (means limit).entries last (length t.config.events) (rises limit)
              (ap is_cut ended)
              (omega (arith, length_first _ _ shown, count))

          by_steps : IsLost means (length t.config.events)
              ⊎ (t.bound < cells * (at.mark.turns + 1)) → ⊥
          by_steps (inl lost) = not_lost (length t.config.events) lost
          by_steps (inr few) =
              let h : at.mark.turns + 1 ≤ (means limit).turns + 1 = omega (arith, at.below) in
              absurd (omega (arith, few, enough, mul-le-mul_left cells h))

-- ---- the trace

-- what follows a first segment
abbrev after_stop : {C E : Type 0} → (C → Moved C E) → ℕ → ℕ → List ℕ → C → Stop E → Traced C E
after_stop mv bound next bounds c Steps = traced bound (segment mv bound 0 c)
after_stop mv bound next bounds c Asleep =
    behind (segment mv bound 0 c).steps (joined mv next bounds (segment mv bound 0 c).config)
after_stop mv bound next bounds c (Over_by e) = traced bound (segment mv bound 0 c)

joined_is : {C E : Type 0} (mv : C → Moved C E) (bound next : ℕ) (bounds : List ℕ) (c : C)
    (stop : Stop E) → (segment mv bound 0 c).stop ≡ stop
    → joined mv bound (next ∷ bounds) c ≡ after_stop mv bound next bounds c stop
joined_is mv bound next bounds c Steps e = ap (λ s. elim s [
  | Steps ↦ traced bound (segment mv bound 0 c)
  | Asleep ↦ behind (segment mv bound 0 c).steps
      (joined mv next bounds (segment mv bound 0 c).config)
  | Over_by e ↦ traced bound (segment mv bound 0 c)
]) e
joined_is mv bound next bounds c Asleep e = ap (λ s. elim s [
  | Steps ↦ traced bound (segment mv bound 0 c)
  | Asleep ↦ behind (segment mv bound 0 c).steps
      (joined mv next bounds (segment mv bound 0 c).config)
  | Over_by e ↦ traced bound (segment mv bound 0 c)
]) e
joined_is mv bound next bounds c (Over_by x) e = ap (λ s. elim s [
  | Steps ↦ traced bound (segment mv bound 0 c)
  | Asleep ↦ behind (segment mv bound 0 c).steps
      (joined mv next bounds (segment mv bound 0 c).config)
  | Over_by e ↦ traced bound (segment mv bound 0 c)
]) e

-- its last bound is one of the bounds
bound_by : {C E : Type 0} (mv : C → Moved C E) (least bound next : ℕ) (bounds : List ℕ) (c : C)
    → least ≤ bound
    → ((d : C) → least ≤ (joined mv next bounds d).bound) → (stop : Stop E)
    → least ≤ (after_stop mv bound next bounds c stop).bound
bound_by mv least bound next bounds c h rest Steps = h
bound_by mv least bound next bounds c h rest Asleep = rest (segment mv bound 0 c).config
bound_by mv least bound next bounds c h rest (Over_by e) = h

last_bound : {C E : Type 0} (mv : C → Moved C E) (least bound : ℕ) (bounds : List ℕ) (c : C)
    → AreAtLeast least (bound ∷ bounds)
    → least ≤ (joined mv bound bounds c).bound
last_bound mv least bound [] c h = h.0
last_bound mv least bound (next ∷ bounds) c h =
    rw (joined_is mv bound next bounds c (segment mv bound 0 c).stop refl)
    (bound_by mv least bound next bounds c h.0 (λ d. last_bound mv least next bounds d h.1)
    (segment mv bound 0 c).stop)

steps_clash : (e : End) → Over_by e ≡ Steps → ⊥
steps_clash e p = cc

asleep_clash : (e : End) → Over_by e ≡ Asleep → ⊥
asleep_clash e p = cc

-- a trace that was started, or not
module _ (amx : Amx) (script : Script) (idle : State) (least bound : ℕ) (bounds : List ℕ) where
  abbrev trace_of : Option State → Traced Config End
  trace_of o = trace_by amx script idle o bound bounds

  bound_enough : (o : Option State) → AreAtLeast least (bound ∷ bounds) → least ≤ (trace_of o).bound
  bound_enough None h = h.0
  bound_enough (Some s) h = last_bound (move amx script) least bound bounds (begun s) h

  asleep_shows : (o : Option State) → (trace_of o).stop ≡ Asleep
      → slept_in (trace_of o).config.events ≡ suc (length bounds)
  asleep_shows None is = absurd (asleep_clash (Error (pos 3)) is)
  asleep_shows (Some s) is =
      let c : Config = begun s in
      let t = joined (move amx script) bound bounds c in
      let so : sleeps (move amx script) t.steps c ≡ suc (length bounds) =
      subst (λ stop. SleepsSo stop (sleeps (move amx script) t.steps c) (suc (length bounds))) is
      (joined_cut (move amx script) bound bounds c).sleeps_so in
      omega (arith, joined_shows amx script bound bounds c, so)

module _ (means : Meanings) (extends : (a b : ℕ) → a ≤ b
    → Extends a (means a) (means a).last (means b))
    (rises : (a : ℕ) → Rises 0 0 (means a).entries (means a).turns (means a).peak)
    (limit : ℕ) (end : End) (cells room : ℕ) (amx : Amx) (script : Script) (idle : State)
    (bound : ℕ) (bounds : List ℕ)
    (enough : HasEnough (means limit) end cells room (bound ∷ bounds)) (o : Option State)
    (agrees : AgreesOn means cells room (trace_by amx script idle o bound bounds)) where
  abbrev t : Traced Config End
  t = trace_by amx script idle o bound bounds

  ends_by : (stop : Stop End) → t.stop ≡ stop → EndsAs (means limit) end t
  ends_by (Over_by e) is =
      over_by means extends rises limit end enough.ended enough.astray cells room t agrees e is
      enough.room_enough (three_or e)
  ends_by Steps is =
      absurd (steps_no means extends rises limit end enough.ended enough.astray cells room t
      agrees is
      (bound_enough amx script idle (cells * ((means limit).turns + 1)) bound bounds o
      enough.bounds_enough))
  ends_by Asleep is =
      absurd (omega (
        arith,
        enough.sleeps,
        asleep_shows amx script idle 0 bound bounds o is,
        slept_first t.config.events (events_of (means limit).entries)
            (shown means extends rises limit end enough.ended enough.astray cells room t agrees),
      ))

pub what_agreement_gives_lem : WhatAgreementGives
what_agreement_gives_lem program amx agrees script room entry f address bound bounds keeps serves
    within function_is address_is limit end enough =
    let idle : State = loaded amx room in
    ends_by (meaning program script f) (λ a b h. later_turns_extend_lem program script f a b h)
    (λ a. turns_never_fall_lem program script f a)
    limit end (length amx.code) room amx script idle bound bounds enough
    (start_at amx address [] idle)
    (agrees.runs script room entry f address bound bounds keeps serves within function_is
    address_is) _ refl

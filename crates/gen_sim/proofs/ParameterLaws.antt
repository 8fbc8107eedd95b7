-- The arguments on the stack as the first slots of a frame.
use Rattle.std.proofs.Common.{◌≡◌, ◌+◌, ◌<◌, ◌≤◌, ◌⊎◌, inl, inr, ℕ, zero, suc, ℤ, List, [], ◌∷◌}
use Rattle.std.proofs.Common.{◌++◌, None, Some, Bool, true, false, ◌==◌, length, map, replicate}
use Rattle.std.proofs.Common.{slice_get, if◌then◌else◌, refl, sym, ap, subst, ◌∙◌, arith}
use Rattle.std.proofs.Common.{append_assoc, length-append, ne_eqb}
use Rattle.std.proofs.lemmas.Bool.{cases_lt, eqb-true, eqb-false}
use Rattle.pawn_meaning.specs.Program.{Program}
use Rattle.pawn_meaning.specs.Memory.{Memory, Local, Holds, Owns, PointsTo, Unmade, Frame}
use Rattle.pawn_meaning.specs.Memory.{object_at, one_cell, frame_at, slot_in, pointed, needs_of}
use Rattle.pawn_meaning.specs.Natives.{Held, Value}
use Rattle.pawn_meaning.specs.Natives as natives
use Rattle.pawn_meaning.specs.Calls.{held_in_slot}
use Rattle.gen_sim.specs.Pieces.{AreThere, image}
use Rattle.gen_sim.specs.View.{View, depth, Laid}
use Rattle.gen_sim.specs.Next.{param_pieces, referred, HoldArguments, in_call}
use Rattle.gen_sim.specs.Stands.{refers_at}
use Rattle.gen_sim.proofs.FrameLaws.{top_frame, lower_frame}
use Rattle.gen_sim.proofs.ObjectLaws.{with_frame}

slot_at : (before : List Holds) (h : Holds) (after : List Holds)
    → slice_get (before ++ h ∷ after) (length before) ≡ Some h
slot_at [] h after = refl
slot_at (y ∷ before) h after = slot_at before h after

pub count_needs : (fs : List Frame) → length (needs_of fs) ≡ length fs
count_needs [] = refl
count_needs (f ∷ fs) = ap suc (count_needs fs)

pub unmade_none : (k i : ℕ) → pointed (slice_get (replicate k Unmade) i) ≡ None
unmade_none zero i = refl
unmade_none (suc k) zero = refl
unmade_none (suc k) (suc i) = unmade_none k i

pub no_frame : (fs : List Frame) (k : ℕ) → length fs ≤ k → frame_at fs k ≡ None
no_frame [] k h = refl
no_frame (f ∷ fs) k h =
    let e : (length fs == k) ≡ false = ne_eqb _ _ (λ x. absurd (omega (arith, x, h))) in
    rw e (no_frame fs k (omega (arith, h)))

module _ (program : Program) (room : ℕ) (v : View) (m : Memory) (f : Frame)
    (rest : List Holds) where
  own_param : (before : List Holds) (y : ℤ) (after : List Holds)
      → f.slots ≡ before ++ Owns (one_cell y) ∷ after
      → object_at (with_frame f m) (Local (length m.frames) (length before)) ≡ Some (one_cell y)
  own_param before y after e =
      rw (top_frame f m.frames, e, slot_at before (Owns (one_cell y)) after) refl

  regroup : (before : List Holds) (h : Holds) (held : List Held)
      → (before ++ h ∷ []) ++ (map held_in_slot held ++ rest)
      ≡ before ++ (h ∷ (map held_in_slot held ++ rest))
  regroup before h held = append_assoc before (h ∷ []) (map held_in_slot held ++ rest)

  one_longer : (before : List Holds) (h : Holds) → length (before ++ h ∷ []) ≡ length before + 1
  one_longer before h = length-append before (h ∷ [])

  -- the cells of the arguments are those of the parameters' pieces
  pub params_image : (before : List Holds) (held : List Held) (cells : List ℤ)
      → HoldArguments program room v held cells
      → f.slots ≡ before ++ (map held_in_slot held ++ rest)
      → image (with_frame f m) (param_pieces (length m.frames) (length before) held cells) ≡ cells
  params_image before [] [] h e = refl
  params_image before [] (c ∷ cells) h e = elim h [ ]
  params_image before (y ∷ held) [] h e = elim h [ ]
  params_image before (Value y ∷ held) (c ∷ cells) h e =
      let own = own_param before y (map held_in_slot held ++ rest) e in
      let others =
      params_image (before ++ Owns (one_cell y) ∷ []) held cells h.1
      (e ∙ sym (regroup before (Owns (one_cell y)) held)) in
      let others' : image (with_frame f m)
      (param_pieces (length m.frames) (length before + 1) held cells) ≡ cells =
      subst (λ k. image (with_frame f m) (param_pieces (length m.frames) k held cells) ≡ cells)
      (one_longer before (Owns (one_cell y))) others in
      rw (own, others', h.0) refl
  params_image before (natives.Refers r ∷ held) (c ∷ cells) h e =
      let others =
      params_image (before ++ PointsTo r ∷ []) held cells h.1
      (e ∙ sym (regroup before (PointsTo r) held)) in
      let others' : image (with_frame f m)
      (param_pieces (length m.frames) (length before + 1) held cells) ≡ cells =
      subst (λ k. image (with_frame f m) (param_pieces (length m.frames) k held cells) ≡ cells)
      (one_longer before (PointsTo r)) others in
      rw others' refl

  pub params_there : (before : List Holds) (held : List Held) (cells : List ℤ)
      → HoldArguments program room v held cells
      → f.slots ≡ before ++ (map held_in_slot held ++ rest)
      → AreThere (with_frame f m) (param_pieces (length m.frames) (length before) held cells)
  params_there before [] [] h e = tt
  params_there before [] (c ∷ cells) h e = elim h [ ]
  params_there before (y ∷ held) [] h e = elim h [ ]
  params_there before (Value y ∷ held) (c ∷ cells) h e =
      let own = own_param before y (map held_in_slot held ++ rest) e in (
        rw own (record { sizes_are = refl; count = refl }),
        subst (λ k. AreThere (with_frame f m) (param_pieces (length m.frames) k held cells))
            (one_longer before (Owns (one_cell y)))
            (params_there (before ++ Owns (one_cell y) ∷ []) held cells h.1
            (e ∙ sym (regroup before (Owns (one_cell y)) held))),
      )
  params_there before (natives.Refers r ∷ held) (c ∷ cells) h e = (
    tt,
    subst (λ k. AreThere (with_frame f m) (param_pieces (length m.frames) k held cells))
        (one_longer before (PointsTo r))
        (params_there (before ++ PointsTo r ∷ []) held cells h.1
        (e ∙ sym (regroup before (PointsTo r) held))),
  )

-- ---- what the parameters refer to

pub referred_is : (held : List Held) (rest : List Holds) (slot : ℕ)
    → ((i : ℕ) → pointed (slice_get rest i) ≡ None)
    → pointed (slice_get (map held_in_slot held ++ rest) slot) ≡ referred held slot
referred_is [] rest slot h = h slot
referred_is (Value y ∷ held) rest zero h = refl
referred_is (natives.Refers r ∷ held) rest zero h = refl
referred_is (Value y ∷ held) rest (suc slot) h = referred_is held rest slot h
referred_is (natives.Refers r ∷ held) rest (suc slot) h = referred_is held rest slot h

module _ (program : Program) (room : ℕ) (v : View) (need : ℕ) (saved : List ℤ) (held : List Held)
    (cells waits : List ℤ) where
  abbrev callee : View
  callee = in_call program room v need saved held cells waits

  -- within the call
  pub higher_params : (m : Memory) (f : Frame) (rest : List Holds)
      → f.slots ≡ map held_in_slot held ++ rest → length m.frames ≡ depth v
      → ((i : ℕ) → pointed (slice_get rest i) ≡ None)
      → ((k slot : ℕ) → refers_at k slot m ≡ v.params k slot)
      → (k slot : ℕ) → refers_at k slot (with_frame f m) ≡ callee.params k slot
  higher_params m f rest slots_are count none same k slot = by_case (k == depth v) refl
    where
      by_case : (b : Bool) → (k == depth v) ≡ b
          → pointed (slot_in (frame_at (f ∷ m.frames) k) slot)
          ≡ (if k == depth v then referred held else v.params k) slot
      by_case true e =
          let here : frame_at (f ∷ m.frames) k ≡ Some f =
          subst (λ j. frame_at (f ∷ m.frames) j ≡ Some f) (count ∙ sym (eqb-true k (depth v) e))
          (top_frame f m.frames) in
          rw (e, here, slots_are) (referred_is held rest slot none)
      by_case false e =
          let other : (length m.frames == k) ≡ false =
          ne_eqb _ _ (λ y. eqb-false k (depth v) e (sym y ∙ count)) in
          rw (e, other) (same k slot)

  -- and behind it
  pub lower_params : Laid program room v → (m : Memory) (f : Frame) (fs : List Frame)
      → length fs ≡ depth v → m.frames ≡ f ∷ fs
      → ((k slot : ℕ) → refers_at k slot m ≡ callee.params k slot)
      → (k slot : ℕ) → refers_at k slot (record m { frames = fs }) ≡ v.params k slot
  lower_params laid m f fs count is same k slot = by_order (cases_lt k (depth v))
    where
      by_order : (k < depth v) ⊎ (depth v ≤ k)
          → pointed (slot_in (frame_at fs k) slot) ≡ v.params k slot
      by_order (inl l) =
          let other : (k == depth v) ≡ false = ne_eqb _ _ (λ y. absurd (omega (arith, y, l))) in
          let here : pointed (slot_in (frame_at (f ∷ fs) k) slot)
          ≡ (if k == depth v then referred held else v.params k) slot =
          subst (λ z. pointed (slot_in (frame_at z k) slot)
          ≡ (if k == depth v then referred held else v.params k) slot) is (same k slot) in
          ap (λ o. pointed (slot_in o slot)) (sym (lower_frame f fs k (omega (arith, l, count))))
          ∙ here
          ∙ ap (λ (b : Bool). (if b then referred held else v.params k) slot) other
      by_order (inr l) =
          rw (no_frame fs k (omega (arith, l, count)))
          (sym (laid.none_above k slot (omega (arith, l))))

-- More objects and automata beside those of a program: what asks for none of them finds the same, and
-- leaves them as they are.
use Rattle.std.proofs.Common.{◌≡◌, ◌∙◌, ◌++◌, ◌+◌, ◌<◌, ◌==◌, ◌&&◌, ℕ, zero, suc, ℤ, List, [], ◌∷◌}
use Rattle.std.proofs.Common.{Bool}
use Rattle.std.proofs.Common.{true, false, Option, None, Some, IfSome, length, slice_get, refl, sym}
use Rattle.std.proofs.Common.{ap}
use Rattle.std.proofs.Common.{subst, arith, length-append, length-set, if◌then◌else◌}
use Rattle.std.proofs.Common.{nat_lt, nat_le}
use Rattle.std.specs.Prelude.{slice_set}
use Rattle.std.proofs.lemmas.Bool.{ltb-false}
use Rattle.std.proofs.lemmas.List.{set-append_left}
use Rattle.pawn_arrays.specs.Sizes.{elements_in}
use Rattle.pawn_meaning.specs.Memory.{Object, Name, Static, Local, Temporary, Reference, Holds}
use Rattle.pawn_meaning.specs.Memory.{Owns}
use Rattle.pawn_meaning.specs.Memory.{PointsTo, Unmade, Frame, Memory, frame_at, with_frame_at}
use Rattle.pawn_meaning.specs.Memory.{slot_in}
use Rattle.pawn_meaning.specs.Memory.{pointed, object_at, with_slot, with_object, cells_from}
use Rattle.pawn_meaning.specs.Memory.{read_cells, put, put_in, write_cells, Place, Cell, Character}
use Rattle.pawn_meaning.specs.Memory.{cell_in, read_cell, as_character, read, write_character}
use Rattle.pawn_meaning.specs.Memory.{write}
use Rattle.pawn_meaning.specs.Memory.{copy_of, copied, running, part_of, whole_of, through}
use Rattle.pawn_meaning.specs.Memory.{made_in, made, with_temporary, cut_heap, switched}
use Rattle.pawn_meaning.specs.Natives.{Held, Value, Refers}
use Rattle.meaning_laws.proofs.NativeCalls.{AllHold}

-- ---- lists

-- in front of more
pub front_get : {X : Type 0} (xs ys : List X) (i : ℕ) → i < length xs
    → slice_get (xs ++ ys) i ≡ slice_get xs i
front_get [] ys i h = absurd (omega (arith, h))
front_get (x ∷ xs) ys zero h = refl
front_get (x ∷ xs) ys (suc i) h = front_get xs ys i (omega (arith, h))

-- there are so many objects and so many automata, and these stand behind them
module _ (count states : ℕ) (objects : List Object) (more : List (Option ℕ)) where
  abbrev pub beside : Memory → Memory
  beside m = record m { objects = m.objects ++ objects; states = m.states ++ more }

  -- ---- what names no more

  abbrev pub NameFits : Name → Type 0
  NameFits (Static o) = o < count
  NameFits (Local below s) = Unit {0}
  NameFits (Temporary n) = Unit {0}

  abbrev pub HoldsFits : Holds → Type 0
  HoldsFits (Owns object) = Unit {0}
  HoldsFits (PointsTo r) = NameFits r.object
  HoldsFits Unmade = Unit {0}

  abbrev pub SlotsFit : List Holds → Type 0
  SlotsFit [] = Unit {0}
  SlotsFit (holds ∷ slots) = HoldsFits holds × SlotsFit slots

  abbrev pub FramesFit : List Frame → Type 0
  FramesFit [] = Unit {0}
  FramesFit (frame ∷ frames) = SlotsFit frame.slots × FramesFit frames

  abbrev pub PlaceFits : Place → Type 0
  PlaceFits (Cell name i) = NameFits name
  PlaceFits (Character name i k) = NameFits name

  abbrev pub HeldFits : Held → Type 0
  HeldFits (Value v) = Unit {0}
  HeldFits (Refers r) = NameFits r.object

  abbrev pub AllHeldFit : List Held → Type 0
  AllHeldFit all = AllHold HeldFits all

  pub record Fits (m : Memory) : Type 0 where
    pub objects_count : length m.objects ≡ count
    pub states_count : length m.states ≡ states
    pub frames_fit : FramesFit m.frames

  -- with other frames
  pub refit : (m : Memory) (frames : List Frame) → FramesFit frames → Fits m
      → Fits (record m { frames = frames })
  refit m frames f h = record {
    objects_count = h.objects_count;
    states_count = h.states_count;
    frames_fit = f;
  }

  -- what a change leaves
  abbrev pub Kept : Option Memory → Option Memory → Type 0
  Kept None o = o ≡ None
  Kept (Some x) o = (o ≡ Some (beside x)) × Fits x

  -- ---- slots and frames

  slot_fits : (slots : List Holds) (s : ℕ) → SlotsFit slots → IfSome (slice_get slots s) HoldsFits
  slot_fits [] s h = tt
  slot_fits (holds ∷ slots) zero h = h.0
  slot_fits (holds ∷ slots) (suc s) h = slot_fits slots s h.1

  set_fits : (slots : List Holds) (s : ℕ) (holds : Holds) → HoldsFits holds → SlotsFit slots
      → SlotsFit (slice_set slots s holds)
  set_fits [] s holds i h = tt
  set_fits (other ∷ slots) zero holds i h = (i, h.1)
  set_fits (other ∷ slots) (suc s) holds i h = (h.0, set_fits slots s holds i h.1)

  at_by : (b : Bool) (frame : Frame) (o : Option Frame) → SlotsFit frame.slots
      → IfSome o (λ (f : Frame). SlotsFit f.slots)
      → IfSome (if b then Some frame else o) (λ (f : Frame). SlotsFit f.slots)
  at_by true frame o h i = h
  at_by false frame o h i = i

  frame_fits : (frames : List Frame) (below : ℕ) → FramesFit frames
      → IfSome (frame_at frames below) (λ (f : Frame). SlotsFit f.slots)
  frame_fits [] below h = tt
  frame_fits (frame ∷ frames) below h =
      at_by (length frames == below) frame (frame_at frames below) h.0 (frame_fits frames below h.1)

  with_by : (b : Bool) (frame other : Frame) (frames changed : List Frame) → SlotsFit frame.slots
      → SlotsFit other.slots → FramesFit frames → FramesFit changed
      → FramesFit (if b then other ∷ frames else frame ∷ changed)
  with_by true frame other frames changed h i j k = (i, j)
  with_by false frame other frames changed h i j k = (h, k)

  with_frame_fits : (frames : List Frame) (below : ℕ) (other : Frame) → SlotsFit other.slots
      → FramesFit frames → FramesFit (with_frame_at frames below other)
  with_frame_fits [] below other i h = tt
  with_frame_fits (frame ∷ frames) below other i h =
      with_by (length frames == below) frame other frames (with_frame_at frames below other) h.0 i
      h.1 (with_frame_fits frames below other i h.1)

  pointed_fits : (o : Option Holds) → IfSome o HoldsFits
      → IfSome (pointed o) (λ (r : Reference). NameFits r.object)
  pointed_fits None h = tt
  pointed_fits (Some (Owns object)) h = tt
  pointed_fits (Some (PointsTo r)) h = h
  pointed_fits (Some Unmade) h = tt

  slot_in_fits : (o : Option Frame) (s : ℕ) → IfSome o (λ (f : Frame). SlotsFit f.slots)
      → IfSome (slot_in o s) HoldsFits
  slot_in_fits None s h = tt
  slot_in_fits (Some frame) s h = slot_fits frame.slots s h

  -- what a parameter refers to
  pub through_fits : (s : ℕ) (m : Memory) → Fits m
      → (through s (beside m) ≡ through s m)
      × IfSome (through s m) (λ (r : Reference). NameFits r.object)
  through_fits s m h = (
    refl,
    pointed_fits (slot_in (frame_at m.frames (running m)) s)
        (slot_in_fits (frame_at m.frames (running m)) s
        (frame_fits m.frames (running m) h.frames_fit)),
  )

  -- ---- objects

  pub object_same : (name : Name) (m : Memory) → NameFits name → Fits m
      → object_at (beside m) name ≡ object_at m name
  object_same (Static o) m i h =
      let same = h.objects_count in front_get m.objects objects o (omega (arith, i, same))
  object_same (Local below s) m i h = refl
  object_same (Temporary n) m i h = refl

  with_slot_same : (o : Option Frame) (below s : ℕ) (holds : Holds) (m : Memory)
      → with_slot o below s holds (beside m) ≡ beside (with_slot o below s holds m)
  with_slot_same None below s holds m = refl
  with_slot_same (Some frame) below s holds m = refl

  with_slot_fits : (o : Option Frame) (below s : ℕ) (holds : Holds) (m : Memory) → HoldsFits holds
      → IfSome o (λ (f : Frame). SlotsFit f.slots) → Fits m → Fits (with_slot o below s holds m)
  with_slot_fits None below s holds m i j h = h
  with_slot_fits (Some frame) below s holds m i j h =
      let other : Frame = record frame { slots = slice_set frame.slots s holds } in
      refit m (with_frame_at m.frames below other)
      (with_frame_fits m.frames below other (set_fits frame.slots s holds i j) h.frames_fit) h

  with_object_same : (name : Name) (object : Object) (m : Memory) → NameFits name → Fits m
      → with_object name object (beside m) ≡ beside (with_object name object m)
  with_object_same (Static o) object m i h =
      let same = h.objects_count in
      let within : o < length m.objects = omega (arith, i, same) in
      ap (λ (l : List Object). record m { objects = l; states = m.states ++ more })
      (set-append_left m.objects objects o object within)
  with_object_same (Local below s) object m i h =
      with_slot_same (frame_at m.frames below) below s (Owns object) m
  with_object_same (Temporary n) object m i h = refl

  with_object_fits : (name : Name) (object : Object) (m : Memory) → Fits m
      → Fits (with_object name object m)
  with_object_fits (Static o) object m h = record {
    objects_count = length-set m.objects o object ∙ h.objects_count;
    states_count = h.states_count;
    frames_fit = h.frames_fit;
  }
  with_object_fits (Local below s) object m h =
      with_slot_fits (frame_at m.frames below) below s (Owns object) m tt
      (frame_fits m.frames below h.frames_fit) h
  with_object_fits (Temporary n) object m h = record {
    objects_count = h.objects_count;
    states_count = h.states_count;
    frames_fit = h.frames_fit;
  }

  -- ---- cells

  put_by : (b : Bool) (name : Name) (object : Object) (m : Memory) → NameFits name → Fits m
      → Kept (if b then Some (with_object name object m) else None)
      (if b then Some (with_object name object (beside m)) else None)
  put_by true name object m i h =
      (ap Some (with_object_same name object m i h), with_object_fits name object m h)
  put_by false name object m i h = refl

  put_kept : (name : Name) (o : Option Object) (i : ℕ) (values : List ℤ) (m : Memory)
      → NameFits name → Fits m → Kept (put_in name o i values m) (put_in name o i values (beside m))
  put_kept name None i values m n h = refl
  put_kept name (Some object) i values m n h =
      put_by (nat_le (i + length values) (length object.cells)) name
      (record object { cells = put values i object.cells }) m n h

  pub cells_kept : (name : Name) (i : ℕ) (values : List ℤ) (m : Memory) → NameFits name → Fits m
      → Kept (write_cells name i values m) (write_cells name i values (beside m))
  cells_kept name i values m n h =
      subst (λ o. Kept (write_cells name i values m) (put_in name o i values (beside m)))
      (sym (object_same name m n h)) (put_kept name (object_at m name) i values m n h)

  pub read_cells_same : (name : Name) (i n : ℕ) (m : Memory) → NameFits name → Fits m
      → read_cells name i n (beside m) ≡ read_cells name i n m
  read_cells_same name i n m f h = ap (λ o. cells_from o i n) (object_same name m f h)

  read_cell_same : (name : Name) (i : ℕ) (m : Memory) → NameFits name → Fits m
      → read_cell name i (beside m) ≡ read_cell name i m
  read_cell_same name i m f h = ap (λ o. cell_in o i) (object_same name m f h)

  pub read_same : (at : Place) (m : Memory) → PlaceFits at → Fits m
      → read at (beside m) ≡ read at m
  read_same (Cell name i) m f h = read_cell_same name i m f h
  read_same (Character name i k) m f h = ap (as_character k) (read_cell_same name i m f h)

  character_kept : (name : Name) (i k : ℕ) (v : ℤ) (o : Option ℤ) (m : Memory) → NameFits name
      → Fits m → Kept (write_character name i k v o m) (write_character name i k v o (beside m))
  character_kept name i k v None m f h = refl
  character_kept name i k v (Some old) m f h = cells_kept name i _ m f h

  pub write_kept : (at : Place) (v : ℤ) (m : Memory) → PlaceFits at → Fits m
      → Kept (write at v m) (write at v (beside m))
  write_kept (Cell name i) v m f h = cells_kept name i (v ∷ []) m f h
  write_kept (Character name i k) v m f h =
      subst (λ o. Kept (write (Character name i k) v m) (write_character name i k v o (beside m)))
      (sym (read_cell_same name i m f h)) (character_kept name i k v (read_cell name i m) m f h)

  copy_kept : (o : Option (List ℤ)) (name : Name) (i : ℕ) (m : Memory) → NameFits name → Fits m
      → Kept (copy_of o name i m) (copy_of o name i (beside m))
  copy_kept None name i m f h = refl
  copy_kept (Some values) name i m f h = cells_kept name i values m f h

  copied_by : (b : Bool) (o p : Option Memory) → Kept o p
      → Kept (if b then o else None) (if b then p else None)
  copied_by true o p h = h
  copied_by false o p h = refl

  pub copied_kept : (to from : Reference) (n : ℕ) (m : Memory) → NameFits to.object
      → NameFits from.object → Fits m → Kept (copied to from n m) (copied to from n (beside m))
  copied_kept to from n m f g h =
      copied_by (nat_le n (elements_in to.sizes) && nat_le n (elements_in from.sizes)) _ _
      (subst (λ o. Kept (copy_of (read_cells from.object from.at n m) to.object to.at m)
      (copy_of o to.object to.at (beside m))) (sym (read_cells_same from.object from.at n m g h))
      (copy_kept (read_cells from.object from.at n m) to.object to.at m f h))

  -- ---- parts

  part_fits : (name : Name) (o : Option Object) → NameFits name
      → IfSome (part_of name o) (λ (r : Reference). NameFits r.object)
  part_fits name None f = tt
  part_fits name (Some object) f = f

  pub whole_fits : (name : Name) (m : Memory) → NameFits name → Fits m
      → (whole_of name (beside m) ≡ whole_of name m)
      × IfSome (whole_of name m) (λ (r : Reference). NameFits r.object)
  whole_fits name m f h =
      (ap (part_of name) (object_same name m f h), part_fits name (object_at m name) f)

  -- ---- slots that are made

  made_by : (b : Bool) (o : Option Frame) (below s : ℕ) (object : Object) (m : Memory)
      → IfSome o (λ (f : Frame). SlotsFit f.slots) → Fits m
      → Kept (if b then Some (with_slot o below s (Owns object) m) else None)
      (if b then Some (with_slot o below s (Owns object) (beside m)) else None)
  made_by true o below s object m f h =
      (ap Some (with_slot_same o below s (Owns object) m), with_slot_fits o below s (Owns object) m tt f h)
  made_by false o below s object m f h = refl

  made_in_kept : (o : Option Frame) (below s : ℕ) (object : Object) (m : Memory)
      → IfSome o (λ (f : Frame). SlotsFit f.slots) → Fits m
      → Kept (made_in o below s object m) (made_in o below s object (beside m))
  made_in_kept None below s object m f h = refl
  made_in_kept (Some frame) below s object m f h =
      made_by (nat_lt s (length frame.slots)) (Some frame) below s object m f h

  pub made_kept : (s : ℕ) (object : Object) (m : Memory) → Fits m
      → Kept (made s object m) (made s object (beside m))
  made_kept s object m h =
      made_in_kept (frame_at m.frames (running m)) (running m) s object m
      (frame_fits m.frames (running m) h.frames_fit) h

  -- ---- heap and automata

  pub temporary_kept : (v : ℤ) (m : Memory) → Fits m
      → Kept (Some (with_temporary v m)) (Some (with_temporary v (beside m)))
  temporary_kept v m h = (
    refl,
    record {
      objects_count = h.objects_count;
      states_count = h.states_count;
      frames_fit = h.frames_fit;
    },
  )

  pub cut_kept : (n : ℕ) (m : Memory) → Fits m
      → Kept (Some (cut_heap n m)) (Some (cut_heap n (beside m)))
  cut_kept n m h = (
    refl,
    record {
      objects_count = h.objects_count;
      states_count = h.states_count;
      frames_fit = h.frames_fit;
    },
  )

  below_is : (a n : ℕ) → a < n → (b : Bool) → nat_lt a n ≡ b → b ≡ true
  below_is a n h true e = refl
  below_is a n h false e = absurd (omega (arith, h, ltb-false a n e))

  pub switched_kept : (automaton state : ℕ) (m : Memory) → automaton < states → Fits m
      → Kept (switched automaton state m) (switched automaton state (beside m))
  switched_kept automaton state m i h =
      let same = h.states_count in
      let longer = length-append m.states more in
      let low : nat_lt automaton (length m.states) ≡ true =
      below_is automaton (length m.states) (omega (arith, i, same)) _ refl in
      let high : nat_lt automaton (length (m.states ++ more)) ≡ true =
      below_is automaton (length (m.states ++ more)) (omega (arith, i, same, longer)) _ refl in
      let set = slice_set m.states automaton (Some state) in
      let x : Memory = record m { states = set } in
      let P : Bool → Type 0 = λ b.
      Kept (if b then Some x else None) (switched automaton state (beside m)) in
      let Q : Bool → Type 0 = λ b.
      Kept (Some x) (if b then Some (record (beside m) { states = slice_set (m.states ++ more) automaton (Some state) }) else None) in
      let within : automaton < length m.states = omega (arith, i, same) in
      subst P (sym low) (subst Q (sym high) (
        ap (λ (l : List (Option ℕ)). Some (record (beside m) { states = l }))
            (set-append_left m.states more automaton (Some state) within),
        record {
          objects_count = h.objects_count;
          states_count = length-set m.states automaton (Some state) ∙ h.states_count;
          frames_fit = h.frames_fit;
        },
      ))

-- Outlines of memories: which objects there are, with their sizes, and where references lead. Cells
-- may change xs they like.
use Rattle.std.proofs.Common.{◌≡◌, ◌∙◌, ◌++◌, ◌==◌, ℕ, zero, suc}
use Rattle.std.proofs.Common.{List, [], ◌∷◌, Bool, true, false, Option, None, Some, length}
use Rattle.std.proofs.Common.{slice_get, take, map}
use Rattle.std.proofs.Common.{refl, sym, ap, subst}
use Rattle.std.proofs.Common.{if◌then◌else◌}
use Rattle.std.specs.Prelude.{slice_set}
use Rattle.pawn_arrays.specs.Sizes.{elements_in}
use Rattle.pawn_meaning.specs.Program.{StaticObject, Program}
use Rattle.pawn_meaning.specs.Memory.{Object, Name, Static, Local, Temporary, Reference, Holds}
use Rattle.pawn_meaning.specs.Memory.{Owns}
use Rattle.pawn_meaning.specs.Memory.{PointsTo, Unmade, Frame, Memory, frame_at, with_frame_at}
use Rattle.pawn_meaning.specs.Memory.{slot_in}
use Rattle.pawn_meaning.specs.Memory.{owned, pointed, object_at, with_slot, with_object}

-- ---- two lists, element by element

abbrev pub Each : {A B : Type 0} → (A → B → Type 0) → List A → List B → Type 0
Each R [] [] = Unit {0}
Each R [] (b ∷ ys) = ⊥
Each R (a ∷ xs) [] = ⊥
Each R (a ∷ xs) (b ∷ ys) = R a b × Each R xs ys

pub each_length : {A B : Type 0} (R : A → B → Type 0) (xs : List A) (ys : List B) → Each R xs ys
    → length xs ≡ length ys
each_length R [] [] h = refl
each_length R [] (b ∷ ys) h = absurd h
each_length R (a ∷ xs) [] h = absurd h
each_length R (a ∷ xs) (b ∷ ys) h = ap suc (each_length R xs ys h.1)

pub each_get : {A B : Type 0} (R : A → B → Type 0) (xs : List A) (ys : List B) (i : ℕ) (a : A)
    → Each R xs ys → slice_get xs i ≡ Some a → (b : B) × (slice_get ys i ≡ Some b) × R a b
each_get R [] ys i a h e = absurd (cc e)
each_get R (x ∷ xs) [] i a h e = absurd h
each_get R (x ∷ xs) (b ∷ ys) zero a h e =
    let same : x ≡ a = cc e in (b, refl, subst (λ y. R y b) same h.0)
each_get R (x ∷ xs) (b ∷ ys) (suc i) a h e = each_get R xs ys i a h.1 e

-- another element in place of one
pub each_set : {A B : Type 0} (R : A → B → Type 0) (xs : List A) (ys : List B) (i : ℕ) (a : A) (b : B)
    → Each R xs ys → slice_get xs i ≡ Some a → R a b → Each R xs (slice_set ys i b)
each_set R [] ys i a b h e r = absurd (cc e)
each_set R (x ∷ xs) [] i a b h e r = absurd h
each_set R (x ∷ xs) (y ∷ ys) zero a b h e r =
    let same : a ≡ x = cc e in (subst (λ z. R z b) same r, h.1)
each_set R (x ∷ xs) (y ∷ ys) (suc i) a b h e r = (h.0, each_set R xs ys i a b h.1 e r)

-- and on both sides
pub each_set_both : {A B : Type 0} (R : A → B → Type 0) (xs : List A) (ys : List B) (i : ℕ) (a : A) (b : B)
    → Each R xs ys → R a b → Each R (slice_set xs i a) (slice_set ys i b)
each_set_both R [] [] i a b h r = tt
each_set_both R [] (y ∷ ys) i a b h r = absurd h
each_set_both R (x ∷ xs) [] i a b h r = absurd h
each_set_both R (x ∷ xs) (y ∷ ys) zero a b h r = (r, h.1)
each_set_both R (x ∷ xs) (y ∷ ys) (suc i) a b h r = (h.0, each_set_both R xs ys i a b h.1 r)

pub each_append : {A B : Type 0} (R : A → B → Type 0) (xs : List A) (ys : List B) (us : List A)
    (vs : List B) → Each R xs ys → Each R us vs → Each R (xs ++ us) (ys ++ vs)
each_append R [] [] us vs h k = k
each_append R [] (b ∷ ys) us vs h k = absurd h
each_append R (a ∷ xs) [] us vs h k = absurd h
each_append R (a ∷ xs) (b ∷ ys) us vs h k = (h.0, each_append R xs ys us vs h.1 k)

-- the front of more
pub each_front : {A B : Type 0} (R : A → B → Type 0) (xs us : List A) (ys : List B)
    → Each R (xs ++ us) ys → Each R xs (take (length xs) ys)
each_front R [] us ys h = tt
each_front R (x ∷ xs) us [] h = absurd h
each_front R (x ∷ xs) us (y ∷ ys) h = (h.0, each_front R xs us ys h.1)

-- ---- outlines

-- what a slot holds, without cells
pub data Drawn : Type 0 where
  Keeps : List ℕ → Drawn
  Leads : Reference → Drawn
  Blank : Drawn

-- an object of these sizes has all cells that they say
abbrev pub ObjectIs : List ℕ → Object → Type 0
ObjectIs sizes object = (object.sizes ≡ sizes) × (length object.cells ≡ elements_in sizes)

abbrev pub HoldsIs : Drawn → Holds → Type 0
HoldsIs (Keeps sizes) (Owns object) = ObjectIs sizes object
HoldsIs (Keeps sizes) (PointsTo r) = ⊥
HoldsIs (Keeps sizes) Unmade = ⊥
HoldsIs (Leads q) (Owns object) = ⊥
HoldsIs (Leads q) (PointsTo r) = r ≡ q
HoldsIs (Leads q) Unmade = ⊥
HoldsIs Blank (Owns object) = ⊥
HoldsIs Blank (PointsTo r) = ⊥
HoldsIs Blank Unmade = Unit {0}

abbrev pub FrameIs : List Drawn → Frame → Type 0
FrameIs drawn frame = Each HoldsIs drawn frame.slots

-- the frames that are alive, the innermost first, and the sizes of the temporary arguments
pub record Outline : Type 0 where
  pub frames : List (List Drawn)
  pub heap : List (List ℕ)

-- the frame with so many below it
abbrev pub frame_in : List (List Drawn) → ℕ → Option (List Drawn)
frame_in [] below = None
frame_in (frame ∷ frames) below =
    if length frames == below then Some frame else frame_in frames below

abbrev pub drawn_in : Option (List Drawn) → ℕ → Option Drawn
drawn_in None s = None
drawn_in (Some frame) s = slice_get frame s

abbrev pub kept_in : Option Drawn → Option (List ℕ)
kept_in None = None
kept_in (Some (Keeps sizes)) = Some sizes
kept_in (Some (Leads r)) = None
kept_in (Some Blank) = None

kept_by : (o : Option Drawn) (sizes : List ℕ) → kept_in o ≡ Some sizes → o ≡ Some (Keeps sizes)
kept_by None sizes e = absurd (cc e)
kept_by (Some (Keeps found)) sizes e = let same : found ≡ sizes = cc e in ap (λ z. Some (Keeps z)) same
kept_by (Some (Leads r)) sizes e = absurd (cc e)
kept_by (Some Blank) sizes e = absurd (cc e)

owned_by : (sizes : List ℕ) (o : Option Holds) (holds : Holds) → o ≡ Some holds
    → HoldsIs (Keeps sizes) holds → (object : Object) × (owned o ≡ Some object) × ObjectIs sizes object
owned_by sizes o (Owns object) e h = (object, ap owned e, h)
owned_by sizes o (PointsTo r) e h = absurd h
owned_by sizes o Unmade e h = absurd h

pub pointed_by : (q : Reference) (o : Option Holds) (holds : Holds) → o ≡ Some holds
    → HoldsIs (Leads q) holds → pointed o ≡ Some q
pointed_by q o (Owns object) e h = absurd h
pointed_by q o (PointsTo r) e h = ap pointed e ∙ ap Some h
pointed_by q o Unmade e h = absurd h

-- ---- frames

abbrev pub FramesAre : List (List Drawn) → List Frame → Type 0
FramesAre drawn frames = Each FrameIs drawn frames

abbrev pub FrameThere : Option (List Drawn) → Option Frame → Type 0
FrameThere None o = Unit {0}
FrameThere (Some drawn) o = (frame : Frame) × (o ≡ Some frame) × FrameIs drawn frame

there_by : (b : Bool) (drawn : List Drawn) (frame : Frame) (d : Option (List Drawn)) (o : Option Frame)
    → FrameIs drawn frame → FrameThere d o
    → FrameThere (if b then Some drawn else d) (if b then Some frame else o)
there_by true drawn frame d o h i = (frame, refl, h)
there_by false drawn frame d o h i = i

pub frame_there : (drawn : List (List Drawn)) (frames : List Frame) (below : ℕ) → FramesAre drawn frames
    → FrameThere (frame_in drawn below) (frame_at frames below)
frame_there [] frames below h = tt
frame_there (d ∷ drawn) [] below h = absurd h
frame_there (d ∷ drawn) (frame ∷ frames) below h =
    subst (λ n. FrameThere (frame_in (d ∷ drawn) below)
    (if n == below then Some frame else frame_at frames below)) (each_length FrameIs drawn frames h.1)
    (there_by (length drawn == below) d frame (frame_in drawn below) (frame_at frames below) h.0
    (frame_there drawn frames below h.1))

abbrev pub PutThere : List (List Drawn) → Option (List Drawn) → Frame → List Frame → Type 0
PutThere drawn None other frames = FramesAre drawn frames
PutThere drawn (Some d) other frames = FrameIs d other → FramesAre drawn frames

put_none : (drawn : List (List Drawn)) (o : Option (List Drawn)) (other : Frame) (frames : List Frame)
    (d : List Drawn) (frame : Frame) → FrameIs d frame → PutThere drawn o other frames
    → PutThere (d ∷ drawn) o other (frame ∷ frames)
put_none drawn None other frames d frame h i = (h, i)
put_none drawn (Some e) other frames d frame h i = λ j. (h, i j)

put_by : (b : Bool) (d : List Drawn) (drawn : List (List Drawn)) (o : Option (List Drawn)) (other frame : Frame)
    (frames changed : List Frame) → FrameIs d frame → FramesAre drawn frames → PutThere drawn o other changed
    → PutThere (d ∷ drawn) (if b then Some d else o) other
    (if b then other ∷ frames else frame ∷ changed)
put_by true d drawn o other frame frames changed h i j = λ k. (k, i)
put_by false d drawn o other frame frames changed h i j = put_none drawn o other changed d frame h j

-- a frame of the same outline in place of another
pub frame_put : (drawn : List (List Drawn)) (frames : List Frame) (below : ℕ) (other : Frame)
    → FramesAre drawn frames
    → PutThere drawn (frame_in drawn below) other (with_frame_at frames below other)
frame_put [] [] below other h = tt
frame_put [] (frame ∷ frames) below other h = absurd h
frame_put (d ∷ drawn) [] below other h = absurd h
frame_put (d ∷ drawn) (frame ∷ frames) below other h =
    subst (λ n. PutThere (d ∷ drawn) (frame_in (d ∷ drawn) below) other
    (if n == below then other ∷ frames else frame ∷ with_frame_at frames below other))
    (each_length FrameIs drawn frames h.1)
    (put_by (length drawn == below) d drawn (frame_in drawn below) other frame frames
    (with_frame_at frames below other) h.0 h.1 (frame_put drawn frames below other h.1))

-- ---- memories of an outline: with a program's objects and automata

abbrev pub sizes_of : StaticObject → List ℕ
sizes_of it = it.sizes

module _ (program : Program) where
  abbrev pub objects : List (List ℕ)
  objects = map sizes_of program.objects

  abbrev pub states : ℕ
  states = length program.automata

  abbrev pub sizes_at : Outline → Name → Option (List ℕ)
  sizes_at l (Static o) = slice_get objects o
  sizes_at l (Local below s) = kept_in (drawn_in (frame_in l.frames below) s)
  sizes_at l (Temporary n) = slice_get l.heap n

  pub record Has (l : Outline) (m : Memory) : Type 0 where
    pub objects_are : Each ObjectIs objects m.objects
    pub frames_are : Each FrameIs l.frames m.frames
    pub heap_is : Each ObjectIs l.heap m.heap
    pub states_are : length m.states ≡ states

  local_alive : (d : Option (List Drawn)) (o : Option Frame) (s : ℕ) (sizes : List ℕ) → FrameThere d o
      → kept_in (drawn_in d s) ≡ Some sizes
      → (object : Object) × (owned (slot_in o s) ≡ Some object) × ObjectIs sizes object
  local_alive None o s sizes h e = absurd (cc e)
  local_alive (Some drawn) o s sizes h e =
      let it = each_get HoldsIs drawn h.0.slots s (Keeps sizes) h.2 (kept_by (slice_get drawn s) sizes e) in
      owned_by sizes (slot_in o s) it.0 (ap (λ p. slot_in p s) h.1 ∙ it.1) it.2

  -- a name of the outline is of an object
  pub alive : (l : Outline) (m : Memory) (name : Name) (sizes : List ℕ) → Has l m
      → sizes_at l name ≡ Some sizes
      → (object : Object) × (object_at m name ≡ Some object) × ObjectIs sizes object
  alive l m (Static o) sizes h e = each_get ObjectIs objects m.objects o sizes h.objects_are e
  alive l m (Local below s) sizes h e =
      local_alive (frame_in l.frames below) (frame_at m.frames below) s sizes
      (frame_there l.frames m.frames below h.frames_are) e
  alive l m (Temporary n) sizes h e =
      each_get ObjectIs l.heap m.heap n sizes h.heap_is e

  local_put : (l : Outline) (m : Memory) (below s : ℕ) (sizes : List ℕ) (other : Object)
      (d : Option (List Drawn)) → frame_in l.frames below ≡ d → (o : Option Frame)
      → frame_at m.frames below ≡ o → Has l m → FrameThere d o
      → kept_in (drawn_in d s) ≡ Some sizes → ObjectIs sizes other
      → Has l (with_slot o below s (Owns other) m)
  local_put l m below s sizes other None de o oe h i e j = absurd (cc e)
  local_put l m below s sizes other (Some drawn) de None oe h i e j = absurd (cc (i.1))
  local_put l m below s sizes other (Some drawn) de (Some frame) oe h i e j =
      let same : frame ≡ i.0 = cc (i.1) in
      let slots : FrameIs drawn frame = subst (λ f. FrameIs drawn f) (sym same) i.2 in
      let now : FrameIs drawn (record frame { slots = slice_set frame.slots s (Owns other) }) =
      each_set HoldsIs drawn frame.slots s (Keeps sizes) (Owns other) slots
      (kept_by (slice_get drawn s) sizes e) j in
      let put = frame_put l.frames m.frames below
      (record frame { slots = slice_set frame.slots s (Owns other) }) h.frames_are in
      record {
        objects_are = h.objects_are;
        frames_are =
            (subst (λ q. PutThere l.frames q (record frame { slots = slice_set frame.slots s (Owns other) })
            (with_frame_at m.frames below (record frame { slots = slice_set frame.slots s (Owns other) })))
            de put) now;
        heap_is = h.heap_is;
        states_are = h.states_are;
      }

  -- an object of the same sizes in place of another
  pub with_alive : (l : Outline) (m : Memory) (name : Name) (sizes : List ℕ) (other : Object) → Has l m
      → sizes_at l name ≡ Some sizes → ObjectIs sizes other → Has l (with_object name other m)
  with_alive l m (Static o) sizes other h e j = record {
    objects_are = each_set ObjectIs objects m.objects o sizes other h.objects_are e j;
    frames_are = h.frames_are;
    heap_is = h.heap_is;
    states_are = h.states_are;
  }
  with_alive l m (Local below s) sizes other h e j =
      local_put l m below s sizes other (frame_in l.frames below) refl (frame_at m.frames below) refl h
      (frame_there l.frames m.frames below h.frames_are) e j
  with_alive l m (Temporary n) sizes other h e j = record {
    objects_are = h.objects_are;
    frames_are = h.frames_are;
    heap_is = each_set ObjectIs l.heap m.heap n sizes other h.heap_is e j;
    states_are = h.states_are;
  }

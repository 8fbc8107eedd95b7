-- One frame among others, and one slot of it.
use Rattle.std.proofs.Common.{◌≡◌, ◌≢◌, ◌<◌, ◌⊎◌, inl, inr, ℕ, zero, suc, List, [], ◌∷◌, Option}
use Rattle.std.proofs.Common.{None, Some, Bool, true, false, ◌==◌, length, slice_get, slice_set}
use Rattle.std.proofs.Common.{if◌then◌else◌, refl, sym, ap, subst, ◌∙◌, arith, ne_eqb, eq-eqb}
use Rattle.std.proofs.lemmas.Bool.{eqb-true, cases_eq}
use Rattle.pawn_meaning.specs.Memory.{Memory, Object, Holds, Owns, PointsTo, Unmade, Frame}
use Rattle.pawn_meaning.specs.Memory.{frame_at, with_frame_at, slot_in, owned, pointed, with_slot}
use Rattle.pawn_meaning.specs.Memory.{needs_of}
use Rattle.gen_sim.proofs.Lists.{get_other, get_same}

-- the first frame is the one meant, or another one is
abbrev IsAt : (fs : List Frame) (k : ℕ) → Bool → Type 0
IsAt fs k b = (length fs == k) ≡ b

with_length_by : (f : Frame) (fs : List Frame) (k : ℕ) (g : Frame) (b : Bool) → IsAt fs k b
    → length (with_frame_at fs k g) ≡ length fs
    → length (with_frame_at (f ∷ fs) k g) ≡ length (f ∷ fs)
with_length_by f fs k g true e h = rw e refl
with_length_by f fs k g false e h = rw e (ap suc h)

pub with_frames_length : (fs : List Frame) (k : ℕ) (g : Frame)
    → length (with_frame_at fs k g) ≡ length fs
with_frames_length [] k g = refl
with_frames_length (f ∷ fs) k g =
    with_length_by f fs k g (length fs == k) refl (with_frames_length fs k g)

frame_same_by : (f : Frame) (fs : List Frame) (k : ℕ) (old g : Frame) (b : Bool) → IsAt fs k b
    → (frame_at fs k ≡ Some old → frame_at (with_frame_at fs k g) k ≡ Some g)
    → frame_at (f ∷ fs) k ≡ Some old → frame_at (with_frame_at (f ∷ fs) k g) k ≡ Some g
frame_same_by f fs k old g true e h o = rw (e, e) refl
frame_same_by f fs k old g false e h o =
    let n : (length (with_frame_at fs k g) == k) ≡ false = rw (with_frames_length fs k g) e in
    let o' : frame_at fs k ≡ Some old =
    subst (λ b. (if b then Some f else frame_at fs k) ≡ Some old) e o in
    rw (e, n) (h o')

pub frame_same : (fs : List Frame) (k : ℕ) (old g : Frame) → frame_at fs k ≡ Some old
    → frame_at (with_frame_at fs k g) k ≡ Some g
frame_same [] k old g o = cc
frame_same (f ∷ fs) k old g o =
    frame_same_by f fs k old g (length fs == k) refl (frame_same fs k old g) o

frame_other_by : (f : Frame) (fs : List Frame) (k j : ℕ) (g : Frame) (b : Bool)
    → IsAt fs k b → k ≢ j
    → frame_at (with_frame_at fs k g) j ≡ frame_at fs j
    → frame_at (with_frame_at (f ∷ fs) k g) j ≡ frame_at (f ∷ fs) j
frame_other_by f fs k j g true e d h =
    let n : (length fs == j) ≡ false = ne_eqb _ _ (λ x. d (sym (eqb-true (length fs) k e) ∙ x)) in
    rw (e, n) refl
frame_other_by f fs k j g false e d h = rw (e, with_frames_length fs k g, h) refl

pub frame_other : (fs : List Frame) (k j : ℕ) (g : Frame) → k ≢ j
    → frame_at (with_frame_at fs k g) j ≡ frame_at fs j
frame_other [] k j g d = refl
frame_other (f ∷ fs) k j g d =
    frame_other_by f fs k j g (length fs == k) refl d (frame_other fs k j g d)

needs_by : (f : Frame) (fs : List Frame) (k : ℕ) (old g : Frame) (b : Bool) → IsAt fs k b
    → g.need ≡ old.need
    → (frame_at fs k ≡ Some old → needs_of (with_frame_at fs k g) ≡ needs_of fs)
    → frame_at (f ∷ fs) k ≡ Some old → needs_of (with_frame_at (f ∷ fs) k g) ≡ needs_of (f ∷ fs)
needs_by f fs k old g true e n h o =
    let o' : Some f ≡ Some old =
    subst (λ b. (if b then Some f else frame_at fs k) ≡ Some old) e o in
    let same : f ≡ old = inside o' in
    rw e (ap (λ x. x ∷ needs_of fs) (n ∙ ap (λ (x : Frame). x.need) (sym same)))
  where
    inside : Some f ≡ Some old → f ≡ old
    inside z = cc
needs_by f fs k old g false e n h o =
    let o' : frame_at fs k ≡ Some old =
    subst (λ b. (if b then Some f else frame_at fs k) ≡ Some old) e o in
    rw e (ap (λ l. f.need ∷ l) (h o'))

-- what is put into a slot leaves the needs
pub needs_same : (fs : List Frame) (k : ℕ) (old g : Frame) → g.need ≡ old.need
    → frame_at fs k ≡ Some old
    → needs_of (with_frame_at fs k g) ≡ needs_of fs
needs_same [] k old g n o = refl
needs_same (f ∷ fs) k old g n o =
    needs_by f fs k old g (length fs == k) refl n (needs_same fs k old g n) o

-- ---- frames above others

pub lower_frame : (f : Frame) (fs : List Frame) (k : ℕ) → k < length fs
    → frame_at (f ∷ fs) k ≡ frame_at fs k
lower_frame f fs k h =
    let e : (length fs == k) ≡ false = ne_eqb _ _ (λ x. absurd (omega (arith, h, x))) in rw e refl

pub top_frame : (f : Frame) (fs : List Frame) → frame_at (f ∷ fs) (length fs) ≡ Some f
top_frame f fs = let e : (length fs == length fs) ≡ true = eq-eqb _ _ refl in rw e refl

-- ---- slots

-- a frame with another thing in a slot
abbrev pub put_slot : Frame → ℕ → Holds → Frame
put_slot f s h = record f { slots = slice_set f.slots s h }

owned_below : (hs : List Holds) (s : ℕ) (old : Object) → owned (slice_get hs s) ≡ Some old
    → s < length hs
owned_below [] s old h = absurd (let c : ⊥ = cc in c)
owned_below (y ∷ hs) zero old h = omega arith
owned_below (y ∷ hs) (suc s) old h = omega (arith, owned_below hs s old h)

pub slot_owned : (m : Memory) (o : Option Frame) (k s : ℕ) (x old : Object)
    → frame_at m.frames k ≡ o → owned (slot_in o s) ≡ Some old
    → owned (slot_in (frame_at (with_slot o k s (Owns x) m).frames k) s) ≡ Some x
slot_owned m None k s x old e h = cc
slot_owned m (Some f) k s x old e h =
    rw (frame_same m.frames k f (put_slot f s (Owns x)) e)
    (ap owned (get_same f.slots s (Owns x) (owned_below f.slots s old h)))

slot_near : (m : Memory) (f : Frame) (k s j t : ℕ) (h : Holds) → frame_at m.frames k ≡ Some f
    → s ≢ t → (k ≡ j) ⊎ (k ≢ j)
    → owned (slot_in (frame_at (with_frame_at m.frames k (put_slot f s h)) j) t)
    ≡ owned (slot_in (frame_at m.frames j) t)
slot_near m f k s j t h e d (inl same) =
    let a : frame_at m.frames j ≡ Some f = subst (λ i. frame_at m.frames i ≡ Some f) same e in
    let b : frame_at (with_frame_at m.frames k (put_slot f s h)) j ≡ Some (put_slot f s h) =
    subst (λ i. frame_at (with_frame_at m.frames k (put_slot f s h)) i ≡ Some (put_slot f s h)) same
    (frame_same m.frames k f (put_slot f s h) e) in
    rw (a, b) (ap owned (get_other f.slots s t h d))
slot_near m f k s j t h e d (inr other) = rw (frame_other m.frames k j (put_slot f s h) other) refl

pub slot_other : (m : Memory) (o : Option Frame) (k s j t : ℕ) (h : Holds) → frame_at m.frames k ≡ o
    → (k ≢ j) ⊎ (s ≢ t)
    → owned (slot_in (frame_at (with_slot o k s h m).frames j) t)
    ≡ owned (slot_in (frame_at m.frames j) t)
slot_other m None k s j t h e d = refl
slot_other m (Some f) k s j t h e (inl d) = rw (frame_other m.frames k j (put_slot f s h) d) refl
slot_other m (Some f) k s j t h e (inr d) = slot_near m f k s j t h e d (cases_eq k j)

-- ---- what slots refer to

pointed_owned : (o : Option Holds) (x : Object) → owned o ≡ Some x → pointed o ≡ None
pointed_owned None x e = refl
pointed_owned (Some (Owns y)) x e = refl
pointed_owned (Some (PointsTo r)) x e = cc
pointed_owned (Some Unmade) x e = refl

pointed_set : (hs : List Holds) (t s : ℕ) (x : Object) → t < length hs
    → pointed (slice_get hs t) ≡ None → (t ≡ s) ⊎ (t ≢ s)
    → pointed (slice_get (slice_set hs t (Owns x)) s) ≡ pointed (slice_get hs s)
pointed_set hs t s x below h (inl e) =
    let b : pointed (slice_get (slice_set hs t (Owns x)) t) ≡ pointed (slice_get hs t) =
    ap pointed (get_same hs t (Owns x) below) ∙ sym h in
    subst (λ i. pointed (slice_get (slice_set hs t (Owns x)) i) ≡ pointed (slice_get hs i)) e b
pointed_set hs t s x below h (inr d) = ap pointed (get_other hs t s (Owns x) d)

pointed_by : (fs : List Frame) (k j : ℕ) (f : Frame) (t s : ℕ) (x : Object) → frame_at fs k ≡ Some f
    → t < length f.slots
    → pointed (slice_get f.slots t) ≡ None → (k ≡ j) ⊎ (k ≢ j)
    → pointed (slot_in (frame_at (with_frame_at fs k (put_slot f t (Owns x))) j) s)
    ≡ pointed (slot_in (frame_at fs j) s)
pointed_by fs k j f t s x e below h (inl same) =
    let b : pointed (slot_in (frame_at (with_frame_at fs k (put_slot f t (Owns x))) k) s)
    ≡ pointed (slot_in (frame_at fs k) s) =
    rw (frame_same fs k f (put_slot f t (Owns x)) e, e)
    (pointed_set f.slots t s x below h (cases_eq t s)) in
    subst (λ i. pointed (slot_in (frame_at (with_frame_at fs k (put_slot f t (Owns x))) i) s)
    ≡ pointed (slot_in (frame_at fs i) s)) same b
pointed_by fs k j f t s x e below h (inr d) = rw (frame_other fs k j (put_slot f t (Owns x)) d) refl

-- an object in a slot that doesn't refer leaves what slots refer to
pub pointed_made : (m : Memory) (k t j s : ℕ) (f : Frame) (x : Object)
    → frame_at m.frames k ≡ Some f → t < length f.slots
    → pointed (slice_get f.slots t) ≡ None
    → pointed (slot_in (frame_at (with_slot (Some f) k t (Owns x) m).frames j) s)
    ≡ pointed (slot_in (frame_at m.frames j) s)
pointed_made m k t j s f x e below h = pointed_by m.frames k j f t s x e below h (cases_eq k j)

pub pointed_same : (m : Memory) (o : Option Frame) (k t j s : ℕ) (x old : Object)
    → frame_at m.frames k ≡ o → owned (slot_in o t) ≡ Some old
    → pointed (slot_in (frame_at (with_slot o k t (Owns x) m).frames j) s)
    ≡ pointed (slot_in (frame_at m.frames j) s)
pointed_same m None k t j s x old e h = refl
pointed_same m (Some f) k t j s x old e h =
    pointed_made m k t j s f x e (owned_below f.slots t old h)
    (pointed_owned (slice_get f.slots t) old h)

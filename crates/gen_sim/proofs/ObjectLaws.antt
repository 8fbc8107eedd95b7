-- What a change of one object, of one automaton, of the temporary arguments or of the frames leaves
-- as it is.
use Rattle.std.proofs.Common.{◌≡◌, ℕ, ℤ, List, [], ◌∷◌, Option, None, Some, length, slice_get}
use Rattle.std.proofs.Common.{slice_set, refl, sym, ap, length-set}
use Rattle.std.proofs.lemmas.Option.{slice_get_within}
use Rattle.pawn_meaning.specs.Memory.{Memory, Object, Name, Static, Local, Temporary, Holds, Owns}
use Rattle.pawn_meaning.specs.Memory.{Frame, object_at, with_slot, with_object, frame_at, needs_of}
use Rattle.pawn_meaning.specs.Memory.{one_cell, with_temporary}
use Rattle.gen_sim.specs.Pieces.{Piece, Fixed, Thing, Automaton, IsThere, object_cells, cells_in}
use Rattle.gen_sim.specs.Places.{Differ, Apart}
use Rattle.gen_sim.specs.View.{IsAlive, IsOf}
use Rattle.gen_sim.specs.Stands.{refers_at}
use Rattle.gen_sim.proofs.Lists.{get_other, get_same, got_before, got_last}
use Rattle.gen_sim.proofs.FrameLaws.{slot_owned, slot_other, pointed_same, needs_same, lower_frame}
use Rattle.gen_sim.proofs.FrameLaws.{put_slot}
use Rattle.gen_sim.proofs.PieceLaws.{LeavesPieces}

-- ---- one object

slot_objects : (m : Memory) (o : Option Frame) (k s : ℕ) (h : Holds)
    → (with_slot o k s h m).objects ≡ m.objects
slot_objects m None k s h = refl
slot_objects m (Some f) k s h = refl

slot_states : (m : Memory) (o : Option Frame) (k s : ℕ) (h : Holds)
    → (with_slot o k s h m).states ≡ m.states
slot_states m None k s h = refl
slot_states m (Some f) k s h = refl

slot_heap : (m : Memory) (o : Option Frame) (k s : ℕ) (h : Holds)
    → (with_slot o k s h m).heap ≡ m.heap
slot_heap m None k s h = refl
slot_heap m (Some f) k s h = refl

pub other_same : (m : Memory) (name other : Name) (x : Object) → Differ name other
    → object_at (with_object name x m) other ≡ object_at m other
other_same m (Static a) (Static b) x d = get_other m.objects a b x d
other_same m (Static a) (Local k s) x d = refl
other_same m (Static a) (Temporary n) x d = refl
other_same m (Local k s) (Static a) x d =
    ap (λ l. slice_get l a) (slot_objects m (frame_at m.frames k) k s (Owns x))
other_same m (Local k s) (Local j t) x d =
    slot_other m (frame_at m.frames k) k s j t (Owns x) refl d
other_same m (Local k s) (Temporary n) x d =
    ap (λ l. slice_get l n) (slot_heap m (frame_at m.frames k) k s (Owns x))
other_same m (Temporary n) (Static a) x d = refl
other_same m (Temporary n) (Local k s) x d = refl
other_same m (Temporary n) (Temporary i) x d = get_other m.heap n i x d

pub own_same : (m : Memory) (name : Name) (x old : Object) → object_at m name ≡ Some old
    → object_at (with_object name x m) name ≡ Some x
own_same m (Static a) x old h = get_same m.objects a x (slice_get_within m.objects a old h)
own_same m (Local k s) x old h = slot_owned m (frame_at m.frames k) k s x old refl h
own_same m (Temporary n) x old h = get_same m.heap n x (slice_get_within m.heap n old h)

states_same : (m : Memory) (name : Name) (x : Object) → (with_object name x m).states ≡ m.states
states_same m (Static a) x = refl
states_same m (Local k s) x = slot_states m (frame_at m.frames k) k s (Owns x)
states_same m (Temporary n) x = refl

-- all pieces but its own
pub object_leaves : (m : Memory) (name : Name) (sizes : List ℕ) (x : Object)
    → LeavesPieces m (with_object name x m) (Apart (Thing name sizes))
object_leaves m name sizes x = record { cells = cells; there = there }
  where
    cells : (q : Piece) → Apart (Thing name sizes) q
        → cells_in (with_object name x m) q ≡ cells_in m q
    cells (Fixed c) h = refl
    cells (Thing other inner) h = ap (object_cells inner) (other_same m name other x h)
    cells (Automaton a) h = rw (states_same m name x) refl

    there : (q : Piece) → Apart (Thing name sizes) q → IsThere m q
        → IsThere (with_object name x m) q
    there (Fixed c) h t = tt
    there (Thing other inner) h t = rw (other_same m name other x h) t
    there (Automaton a) h t = rw (states_same m name x) t

-- what parameters refer to
pub refers_same : (m : Memory) (name : Name) (x old : Object) (j s : ℕ)
    → object_at m name ≡ Some old
    → refers_at j s (with_object name x m) ≡ refers_at j s m
refers_same m (Static o) x old j s h = refl
refers_same m (Local k t) x old j s h = pointed_same m (frame_at m.frames k) k t j s x old refl h
refers_same m (Temporary n) x old j s h = refl

slot_needs : (m : Memory) (o : Option Frame) (k s : ℕ) (h : Holds) → frame_at m.frames k ≡ o
    → needs_of (with_slot o k s h m).frames ≡ needs_of m.frames
slot_needs m None k s h e = refl
slot_needs m (Some f) k s h e = needs_same m.frames k f (put_slot f s h) refl e

-- the needs of the calls
pub object_needs : (m : Memory) (name : Name) (x : Object)
    → needs_of (with_object name x m).frames ≡ needs_of m.frames
object_needs m (Static o) x = refl
object_needs m (Local k s) x = slot_needs m (frame_at m.frames k) k s (Owns x) refl
object_needs m (Temporary n) x = refl

-- and how many temporary arguments there are
pub object_heap : (m : Memory) (name : Name) (x : Object)
    → length (with_object name x m).heap ≡ length m.heap
object_heap m (Static o) x = refl
object_heap m (Local k t) x = ap length (slot_heap m (frame_at m.frames k) k t (Owns x))
object_heap m (Temporary n) x = length-set m.heap n x

-- ---- one automaton

-- an automaton in a state
abbrev pub with_state : ℕ → ℕ → Memory → Memory
with_state a state m = record m { states = slice_set m.states a (Some state) }

pub state_leaves : (m : Memory) (a state : ℕ)
    → LeavesPieces m (with_state a state m) (Apart (Automaton a))
state_leaves m a state = record { cells = cells; there = there }
  where
    cells : (q : Piece) → Apart (Automaton a) q → cells_in (with_state a state m) q ≡ cells_in m q
    cells (Fixed c) h = refl
    cells (Thing other inner) h = refl
    cells (Automaton b) h = rw (get_other m.states a b (Some state) h) refl

    there : (q : Piece) → Apart (Automaton a) q → IsThere m q → IsThere (with_state a state m) q
    there (Fixed c) h t = tt
    there (Thing other inner) h t = t
    there (Automaton b) h t = rw (get_other m.states a b (Some state) h) t

-- ---- one temporary argument more

-- its piece
abbrev pub next_temporary : Memory → Piece
next_temporary m = Thing (Temporary (length m.heap)) (1 ∷ [])

more_other : (m : Memory) (v : ℤ) (other : Name) → Differ (Temporary (length m.heap)) other
    → object_at (with_temporary v m) other ≡ object_at m other
more_other m v (Static o) d = refl
more_other m v (Local k s) d = refl
more_other m v (Temporary i) d = got_before m.heap (one_cell v) i d

pub temporary_leaves : (m : Memory) (v : ℤ)
    → LeavesPieces m (with_temporary v m) (Apart (next_temporary m))
temporary_leaves m v = record { cells = cells; there = there }
  where
    cells : (q : Piece) → Apart (next_temporary m) q
        → cells_in (with_temporary v m) q ≡ cells_in m q
    cells (Fixed c) h = refl
    cells (Thing other inner) h = ap (object_cells inner) (more_other m v other h)
    cells (Automaton a) h = refl

    there : (q : Piece) → Apart (next_temporary m) q → IsThere m q → IsThere (with_temporary v m) q
    there (Fixed c) h t = tt
    there (Thing other inner) h t = rw (more_other m v other h) t
    there (Automaton a) h t = t

pub temporary_is : (m : Memory) (v : ℤ) → object_at (with_temporary v m) (Temporary (length m.heap))
    ≡ Some (one_cell v)
temporary_is m v = got_last m.heap (one_cell v)

-- ---- one frame more, or less

abbrev pub with_frame : Frame → Memory → Memory
with_frame f m = record m { frames = f ∷ m.frames }

frame_object : (m : Memory) (f : Frame) (temps : ℕ) (name : Name)
    → IsAlive (length m.frames) temps name → object_at (with_frame f m) name ≡ object_at m name
frame_object m f temps (Static o) h = refl
frame_object m f temps (Local k s) h = rw (lower_frame f m.frames k h) refl
frame_object m f temps (Temporary n) h = refl

-- the objects below it
pub frame_leaves : (m : Memory) (f : Frame) (temps : ℕ)
    → LeavesPieces m (with_frame f m) (IsOf (length m.frames) temps)
frame_leaves m f temps = record { cells = cells; there = there }
  where
    cells : (q : Piece) → IsOf (length m.frames) temps q
        → cells_in (with_frame f m) q ≡ cells_in m q
    cells (Fixed c) h = refl
    cells (Thing name sizes) h = ap (object_cells sizes) (frame_object m f temps name h)
    cells (Automaton a) h = refl

    there : (q : Piece) → IsOf (length m.frames) temps q → IsThere m q → IsThere (with_frame f m) q
    there (Fixed c) h t = tt
    there (Thing name sizes) h t = rw (frame_object m f temps name h) t
    there (Automaton a) h t = t

pub unframe_leaves : (m : Memory) (f : Frame) (temps : ℕ)
    → LeavesPieces (with_frame f m) m (IsOf (length m.frames) temps)
unframe_leaves m f temps = record { cells = cells; there = there }
  where
    cells : (q : Piece) → IsOf (length m.frames) temps q
        → cells_in m q ≡ cells_in (with_frame f m) q
    cells (Fixed c) h = refl
    cells (Thing name sizes) h = ap (object_cells sizes) (sym (frame_object m f temps name h))
    cells (Automaton a) h = refl

    there : (q : Piece) → IsOf (length m.frames) temps q → IsThere (with_frame f m) q → IsThere m q
    there (Fixed c) h t = tt
    there (Thing name sizes) h t = rw (sym (frame_object m f temps name h)) t
    there (Automaton a) h t = t

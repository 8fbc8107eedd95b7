-- What happens to memory keeps the functions and the needs of the calls that are alive.
use Rattle.std.proofs.Common.{◌≡◌, ℕ, ℤ, List, [], ◌∷◌, Option, None, Some, Bool, true, false, refl}
use Rattle.std.proofs.Common.{sym, ap, ◌∙◌, length, ◌==◌, nat_lt, slice_set}
use Rattle.std.proofs.Common.{if◌then◌else◌}
use Rattle.host_script.specs.NativeCall.{Put}
use Rattle.pawn_meaning.specs.Memory.{Memory, Frame, Object, Name, Static, Local, Temporary, Holds}
use Rattle.pawn_meaning.specs.Memory.{Owns, Place, Cell, Character, Reference, needs_of, frame_at}
use Rattle.pawn_meaning.specs.Memory.{with_frame_at, with_slot, object_at, with_object, put, put_in}
use Rattle.pawn_meaning.specs.Memory.{write_cells, read_cell, read_cells, write_character, write}
use Rattle.pawn_meaning.specs.Memory.{copy_of, copied, made_in, made, running}
use Rattle.pawn_meaning.specs.Memory.{switched}
use Rattle.pawn_meaning.specs.Natives.{Spot, with_writes}
use Rattle.pawn_meaning.specs.World.{chain_of}

pub record SameFrames (old new : List Frame) : Type 0 where
  pub functions : chain_of new ≡ chain_of old
  pub needs : needs_of new ≡ needs_of old

pub same_frames : (fs : List Frame) → SameFrames fs fs
same_frames fs = record { functions = refl; needs = refl }

-- ---- a slot

at_by : (b : Bool) (f frame : Frame) (fs : List Frame) (below : ℕ) (slots : List Holds)
    → (if b then Some f else frame_at fs below) ≡ Some frame
    → (frame_at fs below ≡ Some frame
    → SameFrames fs (with_frame_at fs below (record frame { slots = slots })))
    → SameFrames (f ∷ fs)
    (if b then record frame { slots = slots } ∷ fs
    else f ∷ with_frame_at fs below (record frame { slots = slots }))
at_by true f frame fs below slots e rest =
    let same : f ≡ frame = cc in
    record {
      functions = ap (λ (x : Frame). x.function ∷ chain_of fs) (sym same);
      needs = ap (λ (x : Frame). x.need ∷ needs_of fs) (sym same);
    }
at_by false f frame fs below slots e rest =
    let r = rest e in
    record {
      functions = ap (λ xs. f.function ∷ xs) r.functions;
      needs = ap (λ xs. f.need ∷ xs) r.needs;
    }

at_same : (fs : List Frame) (below : ℕ) (frame : Frame) (slots : List Holds)
    → frame_at fs below ≡ Some frame
    → SameFrames fs (with_frame_at fs below (record frame { slots = slots }))
at_same [] below frame slots e = same_frames []
at_same (f ∷ fs) below frame slots e =
    at_by (length fs == below) f frame fs below slots e (at_same fs below frame slots)

slot_same : (o : Option Frame) (below s : ℕ) (holds : Holds) (m : Memory)
    → frame_at m.frames below ≡ o → SameFrames m.frames (with_slot o below s holds m).frames
slot_same None below s holds m e = same_frames m.frames
slot_same (Some frame) below s holds m e =
    at_same m.frames below frame (slice_set frame.slots s holds) e

object_same : (name : Name) (object : Object) (m : Memory)
    → SameFrames m.frames (with_object name object m).frames
object_same (Static o) object m = same_frames m.frames
object_same (Local below s) object m =
    slot_same (frame_at m.frames below) below s (Owns object) m refl
object_same (Temporary n) object m = same_frames m.frames

-- ---- memory that may be none

abbrev pub KeepsFrames : List Frame → Option Memory → Type 0
KeepsFrames fs None = Unit {0}
KeepsFrames fs (Some m) = SameFrames fs m.frames

if_kept : (b : Bool) (fs : List Frame) (o : Option Memory) → KeepsFrames fs o
    → KeepsFrames fs (if b then o else None)
if_kept true fs o h = h
if_kept false fs o h = tt

put_in_keeps : (name : Name) (o : Option Object) (i : ℕ) (values : List ℤ) (m : Memory)
    → KeepsFrames m.frames (put_in name o i values m)
put_in_keeps name None i values m = tt
put_in_keeps name (Some object) i values m =
    let x : Object = record object { cells = put values i object.cells } in
    if_kept _ m.frames (Some (with_object name x m)) (object_same name x m)

cells_keep : (name : Name) (i : ℕ) (values : List ℤ) (m : Memory)
    → KeepsFrames m.frames (write_cells name i values m)
cells_keep name i values m = put_in_keeps name (object_at m name) i values m

character_keeps : (name : Name) (i k : ℕ) (v : ℤ) (o : Option ℤ) (m : Memory)
    → KeepsFrames m.frames (write_character name i k v o m)
character_keeps name i k v None m = tt
character_keeps name i k v (Some old) m = put_in_keeps name (object_at m name) i _ m

pub write_keeps : (at : Place) (v : ℤ) (m : Memory) → KeepsFrames m.frames (write at v m)
write_keeps (Cell name i) v m = cells_keep name i (v ∷ []) m
write_keeps (Character name i k) v m = character_keeps name i k v (read_cell name i m) m

copy_keeps : (o : Option (List ℤ)) (name : Name) (i : ℕ) (m : Memory)
    → KeepsFrames m.frames (copy_of o name i m)
copy_keeps None name i m = tt
copy_keeps (Some values) name i m = cells_keep name i values m

pub copied_keeps : (to from : Reference) (count : ℕ) (m : Memory)
    → KeepsFrames m.frames (copied to from count m)
copied_keeps to from count m =
    if_kept _ m.frames _ (copy_keeps (read_cells from.object from.at count m) to.object to.at m)

made_in_keeps : (o : Option Frame) (below s : ℕ) (object : Object) (m : Memory)
    → frame_at m.frames below ≡ o → KeepsFrames m.frames (made_in o below s object m)
made_in_keeps None below s object m e = tt
made_in_keeps (Some frame) below s object m e =
    if_kept _ m.frames (Some (with_slot (Some frame) below s (Owns object) m))
    (slot_same (Some frame) below s (Owns object) m e)

pub made_keeps : (s : ℕ) (object : Object) (m : Memory)
    → KeepsFrames m.frames (made s object m)
made_keeps s object m =
    made_in_keeps (frame_at m.frames (running m)) (running m) s object m refl

pub switched_keeps : (automaton state : ℕ) (m : Memory)
    → KeepsFrames m.frames (switched automaton state m)
switched_keeps automaton state m =
    if_kept (nat_lt automaton (length m.states)) m.frames
    (Some (record m { states = slice_set m.states automaton (Some state) })) (same_frames m.frames)

kept_on : (fs gs : List Frame) (o : Option Memory) → SameFrames fs gs → KeepsFrames gs o
    → KeepsFrames fs o
kept_on fs gs None a b = tt
kept_on fs gs (Some m) a b = record {
  functions = b.functions ∙ a.functions;
  needs = b.needs ∙ a.needs;
}

pub writes_keep : (puts : List (Put Spot)) (fs : List Frame) (o : Option Memory)
    → KeepsFrames fs o → KeepsFrames fs (with_writes puts o)
writes_keep [] fs o h = h
writes_keep (p ∷ puts) fs None h = tt
writes_keep (p ∷ puts) fs (Some m) h =
    writes_keep puts fs (write_cells p.to.object p.to.at p.values m)
    (kept_on fs m.frames _ h (cells_keep p.to.object p.to.at p.values m))

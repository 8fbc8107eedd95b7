-- What is alive in a run, apart from what a host sees: objects as flat lists of cells, the frames
-- of calls, the cells of temporary arguments, and the states of automata. A reference names an
-- object, and knows nothing of addresses. Where what is asked for isn't there the answer is none.
use Rattle.std.specs.Prelude.{ℕ, ◌+◌, ◌-◌, ◌%◌, ℤ, pos, List, [], ◌∷◌, ◌++◌, ◌==◌, ◌&&◌, Option}
use Rattle.std.specs.Prelude.{None, Some, length, take, drop, sum, map, slice_get, slice_set}
use Rattle.std.specs.Prelude.{nat_lt, nat_le, if◌then◌else◌}
use Rattle.pawn_cells.specs.Cells.{char_at, with_char, bits_of}
use Rattle.pawn_arrays.specs.Sizes.{elements_in}

-- ---- objects and what names them

-- cells in rows, with the sizes of all dimensions, the outermost first. A single cell has the size
-- 1
pub record Object : Type 0 where
  pub sizes : List ℕ
  pub cells : List ℤ

-- what names an object
pub data Name : Type 0 where
  -- a global, a static or a literal, by its number in the program
  Static : ℕ → Name
  -- a local or a plain parameter: of the frame with so many frames below it, and the slot. So a
  -- name stays while further calls begin and end
  Local : ℕ → ℕ → Name
  -- the cell of a temporary argument, with so many made before it that are still alive
  Temporary : ℕ → Name

-- a part of an object, from a cell on, with the sizes of all its dimensions: a single cell has none
pub record Reference : Type 0 where
  pub object : Name
  pub at : ℕ
  pub sizes : List ℕ

-- what a slot holds: an object of its own, a reference, or nothing before its declaration was
-- reached
pub data Holds : Type 0 where
  Owns : Object → Holds
  PointsTo : Reference → Holds
  Unmade : Holds

-- a call that is alive: the number of its function, that function's need, and what its slots hold
pub record Frame : Type 0 where
  pub function : ℕ
  pub need : ℕ
  pub slots : List Holds

-- all that is alive
pub record Memory : Type 0 where
  -- globals, statics and literals, by their numbers
  pub objects : List Object
  -- the frame of the innermost call first
  pub frames : List Frame
  -- the cells of temporary arguments, the first one made first
  pub heap : List Object
  -- the state of each automaton, or none
  pub states : List (Option ℕ)

-- an object of one cell
abbrev pub one_cell : ℤ → Object
one_cell v = record { sizes = 1 ∷ []; cells = v ∷ [] }

-- the needs of the calls that are alive
abbrev pub needs_of : List Frame → List ℕ
needs_of frames = map (λ (frame : Frame). frame.need) frames

-- and all of them together
abbrev pub live_need : List Frame → ℕ
live_need frames = sum (needs_of frames)

-- ---- the object of a name

-- the frame with so many frames below it
abbrev pub frame_at : List Frame → ℕ → Option Frame
frame_at [] below = None
frame_at (frame ∷ frames) below =
    if length frames == below then Some frame else frame_at frames below

-- the frames with another one in that place
abbrev pub with_frame_at : List Frame → ℕ → Frame → List Frame
with_frame_at [] below other = []
with_frame_at (frame ∷ frames) below other =
    if length frames == below then other ∷ frames else frame ∷ with_frame_at frames below other

-- what a slot of a frame holds
abbrev pub slot_in : Option Frame → ℕ → Option Holds
slot_in None s = None
slot_in (Some frame) s = slice_get frame.slots s

-- an object that a slot holds as its own
abbrev pub owned : Option Holds → Option Object
owned None = None
owned (Some (Owns object)) = Some object
owned (Some (PointsTo r)) = None
owned (Some Unmade) = None

-- a reference that a slot holds
abbrev pub pointed : Option Holds → Option Reference
pointed None = None
pointed (Some (Owns object)) = None
pointed (Some (PointsTo r)) = Some r
pointed (Some Unmade) = None

-- the object that a name means
abbrev pub object_at : Memory → Name → Option Object
object_at m (Static o) = slice_get m.objects o
object_at m (Local below s) = owned (slot_in (frame_at m.frames below) s)
object_at m (Temporary n) = slice_get m.heap n

-- another thing in a slot of a frame
abbrev pub with_slot : Option Frame → ℕ → ℕ → Holds → Memory → Memory
with_slot None below s holds m = m
with_slot (Some frame) below s holds m =
    record m {
      frames = with_frame_at m.frames below
          (record frame { slots = slice_set frame.slots s holds });
    }

-- another object in place of the one that a name means
abbrev pub with_object : Name → Object → Memory → Memory
with_object (Static o) object m = record m { objects = slice_set m.objects o object }
with_object (Local below s) object m = with_slot (frame_at m.frames below) below s (Owns object) m
with_object (Temporary n) object m = record m { heap = slice_set m.heap n object }

-- ---- cells of objects

-- so many cells of an object from one on, where it has them all
abbrev pub cells_from : Option Object → ℕ → ℕ → Option (List ℤ)
cells_from None i count = None
cells_from (Some object) i count =
    if nat_le (i + count) (length object.cells) then Some (take count (drop i object.cells))
    else None

-- so many cells of a named object from one on
abbrev pub read_cells : Name → ℕ → ℕ → Memory → Option (List ℤ)
read_cells name i count m = cells_from (object_at m name) i count

-- cells in place of others, from one on
abbrev pub put : List ℤ → ℕ → List ℤ → List ℤ
put values i cells = take i cells ++ (values ++ drop (i + length values) cells)

-- cells put into an object, where it has them all
abbrev pub put_in : Name → Option Object → ℕ → List ℤ → Memory → Option Memory
put_in name None i values m = None
put_in name (Some object) i values m =
    if nat_le (i + length values) (length object.cells)
    then Some (with_object name (record object { cells = put values i object.cells }) m)
    else None

-- cells written to an object from one on, where it has them all
abbrev pub write_cells : Name → ℕ → List ℤ → Memory → Option Memory
write_cells name i values m = put_in name (object_at m name) i values m

-- ---- places: one cell, or one packed character

-- a cell of an object; or of such a cell a character, 0 being the most significant byte
pub data Place : Type 0 where
  Cell : Name → ℕ → Place
  Character : Name → ℕ → ℕ → Place

-- a cell of an object
abbrev pub cell_in : Option Object → ℕ → Option ℤ
cell_in None i = None
cell_in (Some object) i = slice_get object.cells i

-- a cell of a named object
abbrev pub read_cell : Name → ℕ → Memory → Option ℤ
read_cell name i m = cell_in (object_at m name) i

-- a character of a cell
abbrev pub as_character : ℕ → Option ℤ → Option ℤ
as_character k None = None
as_character k (Some v) = Some (pos (char_at v k))

-- the value at a place: a character is from 0 to 255
abbrev pub read : Place → Memory → Option ℤ
read (Cell name i) m = read_cell name i m
read (Character name i k) m = as_character k (read_cell name i m)

-- the low byte of a value in place of a character
abbrev pub write_character : Name → ℕ → ℕ → ℤ → Option ℤ → Memory → Option Memory
write_character name i k v None m = None
write_character name i k v (Some old) m =
    write_cells name i (with_char old k (bits_of v % 256) ∷ []) m

-- a value stored at a place: a character keeps the low byte
abbrev pub write : Place → ℤ → Memory → Option Memory
write (Cell name i) v m = write_cells name i (v ∷ []) m
write (Character name i k) v m = write_character name i k v (read_cell name i m) m

-- cells that were read, written to an object
abbrev pub copy_of : Option (List ℤ) → Name → ℕ → Memory → Option Memory
copy_of None name i m = None
copy_of (Some values) name i m = write_cells name i values m

-- so many cells from one part to another, where both have as many, as if all were read first
abbrev pub copied : Reference → Reference → ℕ → Memory → Option Memory
copied to from count m =
    if nat_le count (elements_in to.sizes) && nat_le count (elements_in from.sizes)
    then copy_of (read_cells from.object from.at count m) to.object to.at m
    else None

-- ---- the frame that runs

-- how many frames lie below it
abbrev pub running : Memory → ℕ
running m = length m.frames - 1

-- the part that is all of an object
abbrev pub part_of : Name → Option Object → Option Reference
part_of name None = None
part_of name (Some object) = Some (record { object = name; at = 0; sizes = object.sizes })

-- a whole object
abbrev pub whole_of : Name → Memory → Option Reference
whole_of name m = part_of name (object_at m name)

-- the whole object of one of its slots
abbrev pub own_whole : ℕ → Memory → Option Reference
own_whole s m = whole_of (Local (running m) s) m

-- what one of its parameters refers to
abbrev pub through : ℕ → Memory → Option Reference
through s m = pointed (slot_in (frame_at m.frames (running m)) s)

-- a slot of a frame has a new object of its own
abbrev pub made_in : Option Frame → ℕ → ℕ → Object → Memory → Option Memory
made_in None below s object m = None
made_in (Some frame) below s object m =
    if nat_lt s (length frame.slots) then Some (with_slot (Some frame) below s (Owns object) m)
    else None

-- one of its slots has a new object of its own
abbrev pub made : ℕ → Object → Memory → Option Memory
made s object m = made_in (frame_at m.frames (running m)) (running m) s object m

-- ---- temporary arguments and automata

-- one more temporary argument
abbrev pub with_temporary : ℤ → Memory → Memory
with_temporary v m = record m { heap = m.heap ++ one_cell v ∷ [] }

-- the first so many temporary arguments alone
abbrev pub cut_heap : ℕ → Memory → Memory
cut_heap count m = record m { heap = take count m.heap }

-- an automaton goes to a state
abbrev pub switched : ℕ → ℕ → Memory → Option Memory
switched automaton state m =
    if nat_lt automaton (length m.states)
    then Some (record m { states = slice_set m.states automaton (Some state) }) else None

-- A machine's memory as a row of pieces. A piece is an object of the world with the offsets of its
-- rows, an automaton's cell, or cells of which the world knows nothing.
use Rattle.std.specs.Prelude.{◌≡◌, ◌+◌, ◌*◌, ℕ, zero, suc, ℤ, pos, List, [], ◌∷◌, ◌++◌, Option}
use Rattle.std.specs.Prelude.{None, Some, length, slice_get}
use Rattle.pawn_arrays.specs.Sizes.{elements_in}
use Rattle.pawn_meaning.specs.Program.{StaticObject, Program}
use Rattle.pawn_meaning.specs.Memory.{Object, Name, Static, Temporary, Memory, object_at}

-- a part of the memory that stands for one thing
pub data Piece : Type 0 where
  -- what the machine keeps for itself: what a frame saves, addresses that were handed over, values
  -- that wait
  Fixed : List ℤ → Piece
  -- an object, by its name and its sizes
  Thing : Name → List ℕ → Piece
  -- the state of an automaton, by its number
  Automaton : ℕ → Piece

-- ---- offsets

-- the offsets of so many parts, from one on, in cells each of a size: an offset counts in bytes
-- from its own cell, and the parts stand behind the vector
abbrev pub offsets : (from left size : ℕ) → List ℤ
offsets from zero size = []
offsets from (suc left) size = pos (4 * (suc left + from * size)) ∷ offsets (from + 1) left size

-- of so many parts with further sizes: a vector for the parts of each level, one level behind
-- another
abbrev pub vectors_of : ℕ → List ℕ → List ℤ
vectors_of parts [] = []
vectors_of parts (size ∷ inner) = offsets 0 parts size ++ vectors_of (parts * size) inner

-- of an array with these sizes: one dimension has none
abbrev pub vectors : List ℕ → List ℤ
vectors [] = []
vectors (size ∷ inner) = vectors_of size inner

-- ---- the cells of a piece

-- of an object with these sizes: its offsets, then its own cells
abbrev pub object_cells : List ℕ → Option Object → List ℤ
object_cells sizes None = []
object_cells sizes (Some object) = vectors sizes ++ object.cells

-- 0 for no state, else one more than the state's number
abbrev pub state_cell : Option ℕ → ℤ
state_cell None = pos 0
state_cell (Some state) = pos (state + 1)

-- of an automaton, which may not be there
abbrev pub state_cells : Option (Option ℕ) → List ℤ
state_cells None = []
state_cells (Some state) = state_cell state ∷ []

-- of a piece, in a memory of the world
abbrev pub cells_in : Memory → Piece → List ℤ
cells_in m (Fixed cells) = cells
cells_in m (Thing name sizes) = object_cells sizes (object_at m name)
cells_in m (Automaton a) = state_cells (slice_get m.states a)

-- of pieces one behind another
abbrev pub image : Memory → List Piece → List ℤ
image m [] = []
image m (piece ∷ pieces) = cells_in m piece ++ image m pieces

-- how many cells a piece takes
abbrev pub extent : Piece → ℕ
extent (Fixed cells) = length cells
extent (Thing name sizes) = length (vectors sizes) + elements_in sizes
extent (Automaton a) = 1

-- and all of them together
abbrev pub total : List Piece → ℕ
total [] = 0
total (piece ∷ pieces) = extent piece + total pieces

-- ---- pieces that are there

-- something holds of each piece
abbrev pub Each : (Piece → Type 0) → List Piece → Type 0
Each P [] = Unit {0}
Each P (piece ∷ pieces) = P piece × Each P pieces

-- an object has these sizes, and as many cells
pub record IsSized (sizes : List ℕ) (object : Object) : Type 0 where
  pub sizes_are : object.sizes ≡ sizes
  pub count : length object.cells ≡ elements_in sizes

-- one that may not be there is there, and has them
abbrev pub HasSized : List ℕ → Option Object → Type 0
HasSized sizes None = ⊥
HasSized sizes (Some object) = IsSized sizes object

-- an automaton is there
abbrev pub HasState : Option (Option ℕ) → Type 0
HasState None = ⊥
HasState (Some state) = Unit {0}

-- what a piece stands for is there
abbrev pub IsThere : Memory → Piece → Type 0
IsThere m (Fixed cells) = Unit {0}
IsThere m (Thing name sizes) = HasSized sizes (object_at m name)
IsThere m (Automaton a) = HasState (slice_get m.states a)

-- so for all of them
abbrev pub AreThere : Memory → List Piece → Type 0
AreThere m pieces = Each (IsThere m) pieces

-- ---- the pieces below the heap's end

-- a program's objects from a number on
abbrev pub objects_from : ℕ → List StaticObject → List Piece
objects_from o [] = []
objects_from o (object ∷ objects) = Thing (Static o) object.sizes ∷ objects_from (o + 1) objects

-- so many automata from a number on
abbrev pub automata_from : ℕ → ℕ → List Piece
automata_from a zero = []
automata_from a (suc left) = Automaton a ∷ automata_from (a + 1) left

-- a file's data: the objects in their order, then a cell for each automaton
abbrev pub data_pieces : Program → List Piece
data_pieces program = objects_from 0 program.objects ++ automata_from 0 (length program.automata)

-- so many temporary arguments, the first one made first
abbrev pub temporaries : ℕ → List Piece
temporaries zero = []
temporaries (suc n) = temporaries n ++ Thing (Temporary n) (1 ∷ []) ∷ []

-- What stays while a piece of code runs: the pieces in use, and what a frame's parameters refer to.
-- All that changes from step to step is in `Stands`.
use Rattle.std.specs.Prelude.{◌≡◌, ◌+◌, ◌-◌, ◌*◌, ◌^◌, ◌<◌, ◌≤◌, ℕ, ℤ, pos, List, [], ◌∷◌, ◌++◌}
use Rattle.std.specs.Prelude.{Option, None, Some, length}
use Rattle.pawn_arrays.specs.Sizes.{elements_in}
use Rattle.pawn_meaning.specs.Program.{Program}
use Rattle.pawn_meaning.specs.Memory.{Name, Static, Local, Temporary, Reference}
use Rattle.gen_sim.specs.Pieces.{Piece, Fixed, Thing, Automaton, Each, total, vectors, data_pieces}
use Rattle.gen_sim.specs.Pieces.{temporaries}
use Rattle.gen_sim.specs.Places.{Placed}
use Rattle.gen_sim.specs.Leads.{Leads}

-- where the pieces in use stand, and what is alive
pub record View : Type 0 where
  -- FRM
  pub frm : ℕ
  -- the needs of the calls that are alive, the innermost first
  pub needs : List ℕ
  -- from the values that wait up to the top: the locals in force, the frame, and what lies above it
  pub high : List Piece
  -- the temporary arguments that are alive, and those that were when the innermost call began
  pub temps : ℕ
  pub temps_before : ℕ
  -- what the slots of each frame refer to: a frame is named by the number of frames below it
  pub params : ℕ → ℕ → Option Reference

-- the calls that are alive
abbrev pub depth : View → ℕ
depth v = length v.needs

-- the number of the frame that runs
abbrev pub innermost : View → ℕ
innermost v = depth v - 1

-- an object that is there with so many calls and temporary arguments alive
abbrev pub IsAlive : (calls temps : ℕ) → Name → Type 0
IsAlive calls temps (Static o) = Unit {0}
IsAlive calls temps (Local k s) = k < calls
IsAlive calls temps (Temporary n) = n < temps

-- a piece stands for such an object, or for none
abbrev pub IsOf : (calls temps : ℕ) → Piece → Type 0
IsOf calls temps (Fixed cells) = Unit {0}
IsOf calls temps (Thing name sizes) = IsAlive calls temps name
IsOf calls temps (Automaton a) = Unit {0}

-- a high piece is what the machine keeps, or a local or a plain parameter of such a call: data and
-- temporary arguments lie below
abbrev pub IsOfCall : (calls : ℕ) → Piece → Type 0
IsOfCall calls (Fixed cells) = Unit {0}
IsOfCall calls (Thing (Static o) sizes) = ⊥
IsOfCall calls (Thing (Local k s) sizes) = k < calls
IsOfCall calls (Thing (Temporary n) sizes) = ⊥
IsOfCall calls (Automaton a) = ⊥

-- a program that runs with a room of so many cells for heap and stack
module _ (program : Program) (room : ℕ) where
  -- the cells of data
  abbrev pub kept : ℕ
  kept = total (data_pieces program)

  -- all cells of the machine
  abbrev pub all_cells : ℕ
  all_cells = kept + room

  -- the pieces below HEA
  abbrev pub low : View → List Piece
  low v = data_pieces program ++ temporaries v.temps

  -- the cells in use, those of the data too
  abbrev pub used : View → List ℤ → ℕ
  used v pending = total (low v) + (length pending + total v.high)

  -- a piece has its first cell there
  abbrev pub PlacedIn : View → Piece → ℕ → Type 0
  PlacedIn v piece first = Placed all_cells (low v) v.high piece first

  -- a reference of the world is the cell with this number, of an object that is alive
  pub record RefersTo (v : View) (r : Reference) (cell : ℕ) : Type 0 where
    pub sizes : List ℕ
    pub first : ℕ
    pub placed : PlacedIn v (Thing r.object sizes) first
    pub leads : Leads sizes first r.sizes r.at cell
    pub alive : IsAlive (depth v) v.temps r.object

  -- a cell of a named object is the cell with this number
  pub record CellAt (v : View) (name : Name) (i cell : ℕ) : Type 0 where
    pub sizes : List ℕ
    pub first : ℕ
    pub placed : PlacedIn v (Thing name sizes) first
    pub cell_is : cell ≡ first + length (vectors sizes) + i
    pub inside : i < elements_in sizes

  -- a slot of the frame that runs has the address of a reference in its cell, three cells and those
  -- of the slots before it above FRM. What it refers to was there before the call
  pub record ParamAt (v : View) (slot : ℕ) (r : Reference) : Type 0 where
    pub cell : ℕ
    pub refers : RefersTo v r cell
    pub older : IsAlive (innermost v) v.temps_before r.object
    pub before : List Piece
    pub after : List Piece
    pub split : v.high ≡ before ++ Fixed (pos (4 * cell) ∷ []) ∷ after
    pub place : v.frm + 12 + 4 * slot + 4 * total v.high ≡ 4 * all_cells + 4 * total before

  -- what holds of a view by itself
  pub record Laid (v : View) : Type 0 where
    pub small : 4 * all_cells < 2 ^ 31
    pub refs : (slot : ℕ) (r : Reference) → v.params (innermost v) slot ≡ Some r → ParamAt v slot r
    pub none_above : (k slot : ℕ) → depth v ≤ k → v.params k slot ≡ None
    pub marks : v.temps_before ≤ v.temps
    pub frames_are : Each (IsOfCall (depth v)) v.high
    pub frame_below : v.frm ≤ 4 * all_cells

-- The views that a local, a temporary argument and a call lead to.
use Rattle.std.specs.Prelude.{◌≡◌, ◌+◌, ◌-◌, ◌*◌, ◌==◌, ℕ, zero, suc, ℤ, pos, List, [], ◌∷◌, ◌++◌}
use Rattle.std.specs.Prelude.{Option, None, Some, length, if◌then◌else◌}
use Rattle.pawn_meaning.specs.Program.{Program}
use Rattle.pawn_meaning.specs.Memory.{Local, Reference}
use Rattle.pawn_meaning.specs.Natives.{Held, Value}
use Rattle.pawn_meaning.specs.Natives as natives
use Rattle.gen_sim.specs.Pieces.{Piece, Fixed, Thing, total}
use Rattle.gen_sim.specs.View.{View, depth, innermost, all_cells, RefersTo}

-- a local more, the newest, in a slot of the frame that runs
abbrev pub with_local : View → ℕ → List ℕ → View
with_local v slot sizes = record v { high = Thing (Local (innermost v) slot) sizes ∷ v.high }

-- a temporary argument more
abbrev pub with_temporary : View → View
with_temporary v = record v { temps = suc v.temps }

-- ---- arguments

-- the pieces of a frame's parameters, from a slot on: a cell of its own for a value, and for a
-- reference its address, which stays as it is
abbrev pub param_pieces : (frame slot : ℕ) → List Held → List ℤ → List Piece
param_pieces frame slot [] cells = []
param_pieces frame slot (it ∷ held) [] = []
param_pieces frame slot (Value x ∷ held) (cell ∷ cells) =
    Thing (Local frame slot) (1 ∷ []) ∷ param_pieces frame (slot + 1) held cells
param_pieces frame slot (natives.Refers r ∷ held) (cell ∷ cells) =
    Fixed (cell ∷ []) ∷ param_pieces frame (slot + 1) held cells

-- what the parameters of a frame refer to
abbrev pub referred : List Held → ℕ → Option Reference
referred [] slot = None
referred (Value x ∷ held) zero = None
referred (natives.Refers r ∷ held) zero = Some r
referred (it ∷ held) (suc slot) = referred held slot

-- the pieces of a frame and of what lies above: what it saved, its parameters, and what waits in
-- its caller
abbrev pub frame_pieces : ℕ → List ℤ → List Held → List ℤ → List ℤ → List Piece → List Piece
frame_pieces frame saved held cells waits high =
    (Fixed saved ∷ param_pieces frame 0 held cells) ++ Fixed waits ∷ high

module _ (program : Program) (room : ℕ) where
  -- a cell holds an argument: a value, or the address of what is referred to
  abbrev pub HoldsArgument : View → Held → ℤ → Type 0
  HoldsArgument v (Value x) cell = cell ≡ x
  HoldsArgument v (natives.Refers r) cell =
      (a : ℕ) × RefersTo program room v r a × (cell ≡ pos (4 * a))

  -- and each of several holds its own
  abbrev pub HoldArguments : View → List Held → List ℤ → Type 0
  HoldArguments v [] [] = Unit {0}
  HoldArguments v [] (cell ∷ cells) = ⊥
  HoldArguments v (it ∷ held) [] = ⊥
  HoldArguments v (it ∷ held) (cell ∷ cells) = HoldsArgument v it cell × HoldArguments v held cells

  -- within a call of a function with this need: three cells are saved, the arguments stand in these
  -- cells, and other values wait
  abbrev pub in_call : View → ℕ → List ℤ → List Held → List ℤ → List ℤ → View
  in_call v need saved held cells waits = record v {
    frm = 4 * (all_cells program room - total v.high - length waits - length cells - 3);
    needs = need ∷ v.needs;
    high = frame_pieces (depth v) saved held cells waits v.high;
    temps_before = v.temps;
    params = λ k. if k == depth v then referred held else v.params k;
  }

-- A machine that stands for a world. It is said at the start of a node's code and at each of its
-- exits, and not of the instructions between them.
use Rattle.std.specs.Prelude.{◌≡◌, ◌≤◌, ℕ, ℤ, List, Option, length, sum}
use Rattle.pawn_cells.specs.Cells.{IsCell}
use Rattle.pawn_meaning.specs.Program.{Program}
use Rattle.pawn_meaning.specs.Memory.{Memory, Reference, needs_of, frame_at, slot_in, pointed}
use Rattle.pawn_meaning.specs.World.{World}
use Rattle.pawn_meaning.specs.Told.{events_of}
use Rattle.amx_ops.specs.Moves.{Config}
use Rattle.gen_sim.specs.Mem.{Mem}
use Rattle.gen_sim.specs.View.{View, Laid, all_cells, low}

-- what a slot of a frame refers to
abbrev pub refers_at : ℕ → ℕ → Memory → Option Reference
refers_at k slot m = pointed (slot_in (frame_at m.frames k) slot)

-- a program that runs with a room of so many cells for heap and stack
module _ (program : Program) (room : ℕ) where
  -- the machine is at the address p with these values waiting, the last one pushed first; the host
  -- was shown the same, the script stands at the same place, and the calls that are alive have the
  -- same needs
  pub record Stands (v : View) (pending : List ℤ) (p : ℕ) (w : World) (c : Config) : Type 0 where
    pub mem : Mem (all_cells program room) (low program room v) pending v.high w.memory c.state
    pub frame : c.state.frm ≡ v.frm
    pub at : c.state.cip ≡ p
    pub said : c.events ≡ events_of w.entries
    pub position : c.position ≡ w.position
    pub needs : needs_of w.memory.frames ≡ v.needs
    pub most : sum v.needs ≤ w.peak
    pub laid : Laid program room v
    pub params : (k slot : ℕ) → refers_at k slot w.memory ≡ v.params k slot
    pub temps : length w.memory.heap ≡ v.temps

  -- and has a value in PRI
  pub record With (v : View) (pending : List ℤ) (p : ℕ) (x : ℤ) (w : World)
      (c : Config) : Type 0 where
    pub stands : Stands v pending p w c
    pub value : c.state.pri ≡ x
    pub fits : IsCell x

-- A call that has returned.
use Rattle.std.specs.Prelude.{◌≡◌, ℕ, ℤ, List, ◌∷◌}
use Rattle.pawn_meaning.specs.Program.{Program}
use Rattle.pawn_meaning.specs.Memory.{Frame}
use Rattle.pawn_meaning.specs.World.{World}
use Rattle.amx_ops.specs.Moves.{Config}
use Rattle.gen_sim.specs.View.{View}
use Rattle.gen_sim.specs.Stands.{With}

-- a world without its innermost frame
abbrev pub without_frame : List Frame → World → World
without_frame frames w = record w { memory = record w.memory { frames = frames } }

-- the machine is back in the caller's view, at the return address and with the value in PRI, for
-- the world without the callee's frame, which the meaning drops a step later
pub record Back (program : Program) (room : ℕ) (v : View) (waits : List ℤ) (q : ℕ) (x : ℤ)
    (w : World) (c : Config) : Type 0 where
  pub frame : Frame
  pub frames : List Frame
  pub frames_are : w.memory.frames ≡ frame ∷ frames
  pub back : With program room v waits q x (without_frame frames w) c

-- A file in which code runs, and all else that is the same for each node of a program.
use Rattle.std.specs.Prelude.{◌≡◌, ◌*◌, ◌^◌, ◌<◌, ◌≤◌, ℕ, true, length}
use Rattle.host_script.specs.declared.script.Script.{Script}
use Rattle.host_script.specs.Ranges.{IsScript}
use Rattle.pawn_meaning.specs.Program.{Program}
use Rattle.pawn_meaning.specs.Valid.{IsValid}
use Rattle.pawn_meaning.specs.World.{World}
use Rattle.pawn_meaning.specs.Run.{Outcome}
use Rattle.pawn_meaning.specs.Meaning.{Scene, name_of}
use Rattle.pawn_meaning.specs.Told.{scene_of}
use Rattle.amx_ops.specs.declared.amx.Amx.{Amx}
use Rattle.amx_ops.specs.Instructions.{is_start}
use Rattle.amx_ops.specs.Moves as machine
use Rattle.amx_ops.specs.Moves.{Config, move}
use Rattle.gen_sim.specs.Does.{Does}
use Rattle.gen_sim.specs.View.{kept}

-- the file, its script and its program, the room for heap and stack, the bound on turns, and the
-- address of each function
pub record Site : Type 0 where
  pub amx : Amx
  pub script : Script
  pub program : Program
  pub room : ℕ
  pub limit : ℕ
  pub entry : ℕ → ℕ

-- the program is valid, and the file has as many cells of data as the program's objects and
-- automata, its natives, which cells can number, and code that a cell can address; the script keeps
-- its ranges
pub record IsSite (x : Site) : Type 0 where
  pub valid : IsValid x.program
  pub data_is : length x.amx.store ≡ kept x.program x.room
  pub natives : (n : ℕ) → machine.name_of x.amx.natives n ≡ name_of x.program n
  pub numbered : length x.program.natives ≤ 2 ^ 31
  pub small : 4 * length x.amx.code < 2 ^ 31
  pub script_keeps : IsScript x.script

-- an instruction starts at an address
abbrev pub Starts : Site → ℕ → Type 0
Starts x p = is_start x.amx.code p ≡ true

-- the program with its script and bound
abbrev pub scene_at : Site → Scene
scene_at x = scene_of x.program x.script x.limit

-- from a world, what the machine does for a run there, in at most so many steps beside those of
-- each turn
abbrev pub DoesAt : {A : Type 0} → Site → ℕ → World → Config → Outcome A
    → (A → World → Config → Type 0) → Type 0
DoesAt x count w c o Q = Does (move x.amx x.script) (length x.amx.code) x.room count w.turns c o Q

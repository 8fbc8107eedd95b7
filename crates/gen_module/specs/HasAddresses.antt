-- Where the data of a program stand: the objects one behind another, and behind them a cell for
-- each automaton.
use Rattle.std.specs.Prelude.{◌≡◌, ℕ, ℤ, Some, length, slice_get}
use Rattle.pawn_meaning.specs.Program.{Program}
use Rattle.gen_sim.specs.Pieces.{total, objects_from}
use Rattle.gen_sim.specs.PlaceItems.{object_address}
use Rattle.gen_module.specs.declared.addresses.Addresses.{Addresses}

-- the address of each object, and the cells of all of them
pub record HasAddresses (program : Program) (it : Addresses) : Type 0 where
  pub count : length it.objects ≡ length program.objects
  pub objects : (o : ℕ) (x : ℤ) → slice_get it.objects o ≡ Some x → x ≡ object_address program o
  pub cells : it.cells ≡ total (objects_from 0 program.objects)

-- The ranges of the numbers of an Amx, which come from their types.
use Rattle.std.specs.Prelude.{◌^◌, ◌<◌, ◌++◌, List, All, FitsSigned}
use Rattle.std.specs.Int.{w32}
use Rattle.pawn_base.specs.Cells.{AreCells}
use Rattle.amx_ops.specs.declared.amx.Amx.{Amx}
use Rattle.amx_ops.specs.declared.amx.Record.{Record}
use Rattle.amx_format.specs.Layout.{all_records}

-- each address is a number of 32 bits with its sign
abbrev pub AddressesFit : List Record → Type 0
AddressesFit records = All (λ it. FitsSigned w32 it.address) records

-- the flags have two bytes, and each cell and address has 32 bits with a sign
pub record HasRanges (amx : Amx) : Type 0 where
  pub flags : amx.flags < 2 ^ 16
  pub entry : FitsSigned w32 amx.entry
  pub cells : AreCells (amx.code ++ amx.store)
  pub addresses : AddressesFit (all_records amx)

-- The image of a state at a script's position, for a file with a digest.
use Rattle.std.specs.Prelude.{◌≡◌, ◌+◌, ◌*◌, ◌/◌, ◌++◌, ℕ, ℤ, List, length, take, drop}
use Rattle.amx_ops.specs.State.{State}
use Rattle.amx_step.specs.declared.host_registers.Registers.{Registers}
use Rattle.amx_step.specs.Hosting.{registers_of}
use Rattle.amx_format.specs.Numbers.{half_at, word_at, cell_at, cells_at}
use Rattle.amx_image.specs.declared.version.Version.{Version}
use Rattle.amx_image.specs.declared.version.Version.TheVariants.{Whole, Live}
use Rattle.amx_image.specs.declared.place.TheConstants.{MAGIC, VERSION, ZERO, DIGEST, POSITION, PRI}
use Rattle.amx_image.specs.declared.place.TheConstants.{ALT, FRM, CIP, STK, HEA, COUNT, CELLS}
use Rattle.amx_image.specs.Version.{version_number}

-- the cells that an image holds: all, or those below HEA and then those from STK on
abbrev pub stored : Version → State → List ℤ
stored Whole s = s.cells
stored Live s = take (s.hea / 4) s.cells ++ drop (s.stk / 4) s.cells

-- the registers that stand in an image
abbrev pub registers_at : List ℕ → Registers
registers_at bytes = record {
  pri = cell_at bytes PRI;
  alt = cell_at bytes ALT;
  frm = cell_at bytes FRM;
  cip = cell_at bytes CIP;
  stk = cell_at bytes STK;
  hea = cell_at bytes HEA;
}

-- the length, the first bytes, the digest, and what the number at each place reads as
pub record IsImage (version : Version) (s : State) (position : ℕ)
    (digest bytes : List ℕ) : Type 0 where
  pub length_is : length bytes ≡ CELLS + 4 * length (stored version s)
  pub magic : take 4 bytes ≡ MAGIC
  pub version_is : half_at bytes VERSION ≡ version_number version
  pub zero_is : half_at bytes ZERO ≡ 0
  pub digest_is : take 32 (drop DIGEST bytes) ≡ digest
  pub position_is : word_at bytes POSITION ≡ position
  pub registers : registers_at bytes ≡ registers_of s
  pub count : word_at bytes COUNT ≡ length s.cells
  pub cells : cells_at bytes CELLS (length (stored version s)) ≡ stored version s

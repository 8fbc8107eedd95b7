-- What a host does to a machine: it starts it, sees its registers and sets them, and is lent its
-- memory.
use Rattle.std.specs.Prelude.{◌≡◌, ◌%◌, ◌≤◌, ℤ, pos, ℕ, List, Option, None, Some, Bool, true, false}
use Rattle.std.specs.Prelude.{length, replicate, if◌then◌else◌}
use Rattle.pawn_cells.specs.Cells.{bits_of, cell_of}
use Rattle.amx_block.specs.Lending.{written_over}
use Rattle.amx_ops.specs.declared.amx.Amx.{Amx}
use Rattle.amx_ops.specs.State.{State, stp, first_hea}
use Rattle.amx_ops.specs.Access.{is_live}
use Rattle.amx_step.specs.Machine.{Machine}
use Rattle.amx_step.specs.declared.host_registers.Registers.{Registers}

-- a start with this state, or none where its pushes found no room
abbrev pub StartsSo : Option State → Machine → Bool → Machine → Type 0
StartsSo started old true new = (started ≡ Some new.state) × (new.amx ≡ old.amx)
StartsSo started old false new = (started ≡ None) × (new ≡ old)

-- the registers; addresses as cells
abbrev pub registers_of : State → Registers
registers_of s = record {
  pri = s.pri;
  alt = s.alt;
  frm = cell_of s.frm;
  cip = cell_of s.cip;
  stk = cell_of s.stk;
  hea = cell_of s.hea;
}

-- with these registers, and all cells 0
abbrev pub cleared : Registers → State → State
cleared r s = record {
  pri = r.pri;
  alt = r.alt;
  frm = bits_of r.frm;
  cip = bits_of r.cip;
  stk = bits_of r.stk;
  hea = bits_of r.hea;
  cells = replicate (length s.cells) (pos 0);
}

-- first HEA, HEA, STK and the top rise in whole cells
pub record AreInOrder (amx : Amx) (s : State) : Type 0 where
  pub whole : (s.hea % 4 ≡ 0) × (s.stk % 4 ≡ 0)
  pub order : (first_hea amx ≤ s.hea) × (s.hea ≤ s.stk) × (s.stk ≤ stp s)

-- the live part from an address on written over, where there is one
abbrev pub with_live : State → ℕ → List ℤ → State
with_live s at new = record s { cells = written_over s.cells (if is_live s at then at else 0) new }

-- The address of an array that an instruction sets ALT to by itself: the index comes first, and
-- nothing waits on the stack. An array with an index of its own has no such one, and its address
-- waits while the index is made.
use Rattle.std.specs.Prelude.{◌+◌, ◌*◌, ℕ, ℤ, pos, List, ◌++◌, Option, None, Some}
use Rattle.pawn_meaning.specs.Program.{Array, Object, SlotArray, ParamArray, Row, From}
use Rattle.pawn_meaning.specs.Scope.{Scope}
use Rattle.amx_ops.specs.declared.op.Op.{Op}
use Rattle.amx_ops.specs.declared.op.Op.TheVariants as op
use Rattle.gen_sim.specs.Items.{Item, past}
use Rattle.gen_sim.specs.SimpleCode.{alone, taking, waiting_code}
use Rattle.gen_sim.specs.PlaceItems.{object_address, slot_offset}

-- the instruction, and its operand
pub record Base : Type 0 where
  pub sets : Op
  pub operand : ℤ

-- that of an array without an index
abbrev pub base_of : Scope → Array → Option Base
base_of scope (Object o) =
    Some (record { sets = op.ConstAlt; operand = object_address scope.program o })
base_of scope (SlotArray s) = Some (record { sets = op.AddrAlt; operand = slot_offset scope s })
base_of scope (ParamArray s known) =
    Some (record { sets = op.LoadSAlt; operand = pos (12 + 4 * s) })
base_of scope (Row a e) = None
base_of scope (From a e) = None

-- where the index begins
abbrev pub index_begin : Option Base → ℕ → List Item → ℕ
index_begin None begin array = past begin array + 4
index_begin (Some b) begin array = begin

-- what sets ALT to the array's address, behind the index
abbrev pub base_item : Option Base → Item
base_item None = alone op.PopAlt
base_item (Some b) = taking b.sets b.operand

-- the index, behind the array where that waits, and what is done then
abbrev pub indexed_code : Option Base → (array index tail : List Item) → List Item
indexed_code None array index tail = waiting_code array index tail
indexed_code (Some b) array index tail = index ++ tail

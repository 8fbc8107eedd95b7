-- Items without a fault, each by itself, with case tables: a whole instruction with a valid
-- operand, which leads to addresses of which something holds.
use Rattle.std.specs.Prelude.{◌≡◌, ◌≢◌, ◌+◌, ◌*◌, ◌⊎◌, ℕ, ℤ, pos, List, [], ◌∷◌, None}
use Rattle.amx_ops.specs.declared.op.Op.TheVariants as op
use Rattle.amx_ops.specs.declared.table.Operand.{Operand}
use Rattle.amx_ops.specs.declared.table.Operand.TheVariants as operand
use Rattle.amx_ops.specs.Table.{operand_of}
use Rattle.amx_ops.specs.Written.{IsWritten}
use Rattle.amx_ops.specs.Valid.{operand_fault}
use Rattle.gen_sim.specs.Items.{Item, Plain, CallOf, size}
use Rattle.gen_laws.specs.Fine.{StartsAt}

-- a cell is an address of which something holds
abbrev pub IsLed : (ℕ → Type 0) → ℤ → Type 0
IsLed T v = (at : ℕ) × (v ≡ pos at) × T at

-- the address of each pair of a value and an address is
abbrev pub ArePairsLed : (ℕ → Type 0) → List ℤ → Type 0
ArePairsLed T [] = Unit {0}
ArePairsLed T (value ∷ []) = ⊥
ArePairsLed T (value ∷ at ∷ pairs) = IsLed T at × ArePairsLed T pairs

-- and the default address before them
abbrev pub IsTableLed : (ℕ → Type 0) → List ℤ → Type 0
IsTableLed T [] = ⊥
IsTableLed T (default ∷ pairs) = IsLed T default × ArePairsLed T pairs

-- where jumps lead, and where the tables of switches stand
abbrev pub LeadsWith : (T U : ℕ → Type 0) → Operand → ℤ → List ℤ → Type 0
LeadsWith T U operand.Target v table = IsLed T v
LeadsWith T U operand.Relative v table = ⊥
LeadsWith T U operand.CaseTable v table = IsLed U v
LeadsWith T U operand.Cases v table = IsTableLed T table
LeadsWith T U kind v table = Unit {0}

-- an item has a whole instruction and a valid operand, and leads only to such addresses
abbrev pub IsWell : (natives : ℕ) → (T U : ℕ → Type 0) → Item → Type 0
IsWell natives T U (Plain it) =
    IsWritten it × (it.op ≢ op.Call)
    × ((at : ℕ) → operand_fault natives (operand_of it.op) it.operand at ≡ None)
    × LeadsWith T U (operand_of it.op) it.operand it.table
IsWell natives T U (CallOf f) = Unit {0}

-- all of them
abbrev pub AreWell : (natives : ℕ) → (T U : ℕ → Type 0) → List Item → Type 0
AreWell natives T U [] = Unit {0}
AreWell natives T U (it ∷ items) = IsWell natives T U it × AreWell natives T U items

-- CASETBL, to which only SWITCH leads
abbrev pub IsTable : Item → Type 0
IsTable (Plain it) = it.op ≡ op.Casetbl
IsTable (CallOf f) = ⊥

-- an address is where one of some items is a case table
abbrev pub TableAt : ℕ → List Item → ℕ → Type 0
TableAt begin [] at = ⊥
TableAt begin (it ∷ items) at = ((at ≡ begin) × IsTable it) ⊎ TableAt (begin + 4 * size it) items at

-- something holds of each start and of the end of some items, and something of each of their case
-- tables
pub record Holds (T U : ℕ → Type 0) (begin : ℕ) (items : List Item) : Type 0 where
  pub starts : (at : ℕ) → StartsAt begin items at → T at
  pub tables : (at : ℕ) → TableAt begin items at → U at

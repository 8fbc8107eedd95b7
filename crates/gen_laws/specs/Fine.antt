-- Items without a fault, each by itself: a whole instruction with a valid operand, which leads to
-- an address of which something holds. That is said of a part's items, and holds in whatever they
-- are a part of.
use Rattle.std.specs.Prelude.{◌≡◌, ◌≢◌, ◌+◌, ◌*◌, ◌⊎◌, ℕ, ℤ, pos, List, [], ◌∷◌, None}
use Rattle.amx_ops.specs.declared.op.Op.TheVariants as op
use Rattle.amx_ops.specs.declared.table.Operand.{Operand}
use Rattle.amx_ops.specs.declared.table.Operand.TheVariants as operand
use Rattle.amx_ops.specs.Table.{operand_of}
use Rattle.amx_ops.specs.Written.{IsWritten}
use Rattle.amx_ops.specs.Valid.{operand_fault}
use Rattle.gen_sim.specs.Items.{Item, Plain, CallOf, size}

-- an operand that is an address is one of which something holds; a generator of expressions writes
-- no relative address and no case table
abbrev pub LeadsBy : (ℕ → Type 0) → Operand → ℤ → Type 0
LeadsBy T operand.Target v = (at : ℕ) × (v ≡ pos at) × T at
LeadsBy T operand.Relative v = ⊥
LeadsBy T operand.CaseTable v = ⊥
LeadsBy T operand.Cases v = ⊥
LeadsBy T kind v = Unit {0}

-- an item has a whole instruction and a valid operand; CALL stands only where an address waits
abbrev pub IsFine : (natives : ℕ) → (ℕ → Type 0) → Item → Type 0
IsFine natives T (Plain it) =
    IsWritten it × (it.op ≢ op.Call)
    × ((at : ℕ) → operand_fault natives (operand_of it.op) it.operand at ≡ None)
    × LeadsBy T (operand_of it.op) it.operand
IsFine natives T (CallOf f) = Unit {0}

-- all of them
abbrev pub AreFine : (natives : ℕ) → (ℕ → Type 0) → List Item → Type 0
AreFine natives T [] = Unit {0}
AreFine natives T (it ∷ items) = IsFine natives T it × AreFine natives T items

-- an address is where one of some items starts, or their end
abbrev pub StartsAt : ℕ → List Item → ℕ → Type 0
StartsAt begin [] at = at ≡ begin
StartsAt begin (it ∷ items) at = (at ≡ begin) ⊎ StartsAt (begin + 4 * size it) items at

-- items that begin at an address lead to each other, or to their end
abbrev pub AreClosed : (natives begin : ℕ) → List Item → Type 0
AreClosed natives begin items = AreFine natives (StartsAt begin items) items

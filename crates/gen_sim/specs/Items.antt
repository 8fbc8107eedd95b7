-- Code as a list of items: whole instructions, and calls whose operand waits for a function's
-- address.
use Rattle.std.specs.Prelude.{◌≡◌, ◌≢◌, ◌+◌, ◌*◌, ◌/◌, ◌^◌, ◌<◌, ℕ, ℤ, pos, List, [], ◌∷◌, ◌++◌}
use Rattle.std.specs.Prelude.{Some, length, take, drop}
use Rattle.amx_ops.specs.declared.op.Op.{Op}
use Rattle.amx_ops.specs.declared.op.Op.TheVariants as op
use Rattle.amx_ops.specs.Instructions.{fetched}
use Rattle.amx_ops.specs.Written.{Written, IsWritten, cells_of, read_as}
use Rattle.gen_sim.specs.Site.{Site}

-- a part of the code: an instruction that is known whole, or a call that isn't yet
pub data Item : Type 0 where
  Plain : Written → Item
  -- a call of the function with this number
  CallOf : ℕ → Item

-- an instruction with an operand, or with 0 where it has none
abbrev pub with : Op → ℤ → Written
with operation v = record { op = operation; operand = v; table = [] }

-- as it stands in a file, where each operand that waits holds its function's address
abbrev pub placed_in : (ℕ → ℕ) → Item → Written
placed_in entry (Plain it) = it
placed_in entry (CallOf f) = with op.Call (pos (entry f))

-- as it is appended: an operand that waits is 0
abbrev pub appended : Item → Written
appended it = placed_in (λ f. 0) it

-- how many cells it takes
abbrev pub size : Item → ℕ
size it = length (cells_of (appended it))

-- the cells of several, with the functions at these addresses
abbrev pub cells_with : (ℕ → ℕ) → List Item → List ℤ
cells_with entry [] = []
cells_with entry (it ∷ items) = cells_of (placed_in entry it) ++ cells_with entry items

-- and as they are appended
abbrev pub item_cells : List Item → List ℤ
item_cells items = cells_with (λ f. 0) items

-- the address behind some items that begin at one
abbrev pub past : ℕ → List Item → ℕ
past p [] = p
past p (it ∷ items) = past (p + 4 * size it) items

-- what waits in items that begin at a cell: the cell's number, and the function's
abbrev pub waits_from : ℕ → List Item → List (ℕ × ℕ)
waits_from at [] = []
waits_from at (Plain it ∷ items) = waits_from (at + size (Plain it)) items
waits_from at (CallOf f ∷ items) = (at + 1, f) ∷ waits_from (at + size (CallOf f)) items

-- the operand of each CALL waits
abbrev pub Waits : Item → Type 0
Waits (Plain it) = it.op ≢ op.Call
Waits (CallOf f) = Unit {0}

-- each is a whole instruction
abbrev pub AreWritten : List Item → Type 0
AreWritten [] = Unit {0}
AreWritten (it ∷ items) = IsWritten (appended it) × Waits it × AreWritten items

-- they lie in a file from an address on: each is fetched there, and its cells stand there
abbrev pub LieIn : Site → ℕ → List Item → Type 0
LieIn x p [] = Unit {0}
LieIn x p (it ∷ items) =
    (fetched x.amx.code p ≡ Some (read_as (placed_in x.entry it)))
    × (take (size it) (drop (p / 4) x.amx.code) ≡ cells_of (placed_in x.entry it))
    × (p + 4 * size it < 2 ^ 31) × LieIn x (p + 4 * size it) items

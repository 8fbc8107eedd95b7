-- The code of a local array: cells are taken from the stack, and an object's cells are copied to
-- them, its offsets among them.
use Rattle.std.specs.Prelude.{◌*◌, ℕ, pos, neg_ℤ, List, [], ◌∷◌, ◌++◌, slice_get}
use Rattle.pawn_meaning.specs.Scope.{Scope}
use Rattle.amx_ops.specs.declared.op.Op.TheVariants as op
use Rattle.gen_sim.specs.Items.{Item}
use Rattle.gen_sim.specs.Fits.{own_sizes}
use Rattle.gen_sim.specs.SimpleCode.{alone, taking}
use Rattle.gen_sim.specs.PlaceItems.{cells_by, object_code}

-- how many cells a local array takes, with its offsets
abbrev pub array_cells : Scope → ℕ → ℕ
array_cells scope slot = cells_by (own_sizes (slice_get scope.slots slot))

-- the cells are taken, and their address goes to ALT
abbrev pub taken_code : ℕ → List Item → List Item
taken_code n filled =
    taking op.Stack (neg_ℤ (pos (4 * n))) ∷ taking op.Lctrl (pos 4) ∷ alone op.MoveAlt ∷ filled

-- MOVS copies all cells of the object that has the first values
abbrev pub local_array_code : Scope → (slot object : ℕ) → List Item
local_array_code scope slot object =
    taken_code (array_cells scope slot)
    (object_code scope.program object ++ taking op.Movs (pos (4 * array_cells scope slot)) ∷ [])

-- The code of the address of a place, or of an array, that needs no index.
use Rattle.std.specs.Prelude.{◌+◌, ◌*◌, ◌==◌, ℕ, ℤ, pos, neg_ℤ, List, [], ◌∷◌, length, take, nat_lt}
use Rattle.std.specs.Prelude.{slice_get, if◌then◌else◌}
use Rattle.pawn_arrays.specs.Sizes.{elements_in}
use Rattle.pawn_meaning.specs.Program.{Slot, Program}
use Rattle.pawn_meaning.specs.Scope.{Scope}
use Rattle.amx_ops.specs.declared.op.Op.TheVariants as op
use Rattle.gen_sim.specs.Pieces.{total, vectors, objects_from}
use Rattle.gen_sim.specs.Items.{Item}
use Rattle.gen_sim.specs.Fits.{own_sizes}
use Rattle.gen_sim.specs.SimpleCode.{taking}

-- the address of an object: the objects before it lie below
abbrev pub object_address : Program → ℕ → ℤ
object_address program o = pos (4 * total (objects_from 0 (take o program.objects)))

-- a constant address, from the start of the data
abbrev pub object_code : Program → ℕ → List Item
object_code program o = taking op.ConstPri (object_address program o) ∷ []

-- the cells of sizes, with the offsets of rows
abbrev pub cells_by : List ℕ → ℕ
cells_by sizes = length (vectors sizes) + elements_in sizes

-- from FRM down to a local's first cell, where these locals were made one after another
abbrev pub cells_to : List Slot → List ℕ → ℕ → ℕ
cells_to slots [] s = 0
cells_to slots (m ∷ made) s =
    cells_by (own_sizes (slice_get slots m)) + (if m == s then 0 else cells_to slots made s)

-- from FRM to a slot's own cells: a parameter lies above, behind three cells, and a local below
abbrev pub slot_offset : Scope → ℕ → ℤ
slot_offset scope s =
    if nat_lt s scope.params then pos (12 + 4 * s)
    else neg_ℤ (pos (4 * cells_to scope.slots scope.made s))

-- an address by its distance from FRM
abbrev pub slot_code : Scope → ℕ → List Item
slot_code scope s = taking op.AddrPri (slot_offset scope s) ∷ []

-- a parameter that refers has the address in its cell
abbrev pub through_code : ℕ → List Item
through_code s = taking op.LoadSPri (pos (12 + 4 * s)) ∷ []

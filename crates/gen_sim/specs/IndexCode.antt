-- The code of places and arrays with an index: the index is tested where the size is known, and
-- then the array's address goes to ALT. And the code of a copy.
use Rattle.std.specs.Prelude.{◌*◌, ℕ, zero, suc, pos, List, [], ◌∷◌, ◌++◌, Option, None, Some}
use Rattle.amx_ops.specs.declared.op.Op.TheVariants as op
use Rattle.gen_sim.specs.Items.{Item}
use Rattle.gen_sim.specs.SimpleCode.{alone, taking, both_code}
use Rattle.gen_sim.specs.BaseCode.{Base, base_item, indexed_code}

-- the test of an index below a size, where it is known. Below 0 there is no index, so each value
-- fails that test
abbrev pub bounds_code : Option ℕ → List Item
bounds_code None = []
bounds_code (Some zero) = taking op.ConstPri (pos 1) ∷ taking op.Bounds (pos 0) ∷ []
bounds_code (Some (suc n)) = taking op.Bounds (pos n) ∷ []

-- four characters to a cell
abbrev pub in_characters : Option ℕ → Option ℕ
in_characters None = None
in_characters (Some n) = Some (4 * n)

-- up to an element: the array's address is in ALT, and the index in PRI
abbrev pub element_code : Option Base → Option ℕ → (array index : List Item) → List Item
element_code base size array index =
    indexed_code base array index (bounds_code size ++ base_item base ∷ [])

-- up to a packed character: ALIGN turns the order of the bytes
abbrev pub character_code : Option Base → Option ℕ → (array index : List Item) → List Item
character_code base size array index =
    indexed_code base array index
    (bounds_code (in_characters size) ++ (taking op.AlignPri (pos 1) ∷ base_item base ∷ []))

-- the address of the rest from an element on
abbrev pub rest_code : List Item
rest_code = alone op.Idxaddr ∷ []

-- the address of a row: its offset counts from the cell where it stands
abbrev pub row_code : List Item
row_code = alone op.Idxaddr ∷ alone op.MoveAlt ∷ alone op.LoadI ∷ alone op.Add ∷ []

-- so many cells; the value is 0
abbrev pub copy_code : ℕ → (to from : List Item) → List Item
copy_code n to from = both_code to from (taking op.Movs (pos (4 * n)) ∷ alone op.ZeroPri ∷ [])

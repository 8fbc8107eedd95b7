-- The bytes of an image with the live cells, as they are written one behind another.
use Rattle.std.specs.Prelude.{◌++◌, ℕ, ℤ, List, [], ◌∷◌}
use Rattle.amx_step.specs.declared.host_registers.Registers.{Registers}
use Rattle.amx_format.specs.Layout.{half, word, cells}
use Rattle.amx_image.specs.declared.place.TheConstants.{MAGIC}
use Rattle.amx_image.specs.declared.version.TheConstants.{LIVE}

-- registers in their order
abbrev pub row_of : Registers → List ℤ
row_of r = r.pri ∷ r.alt ∷ r.frm ∷ r.cip ∷ r.stk ∷ r.hea ∷ []

-- what stands in front of the position
abbrev pub front : List ℕ → List ℕ
front digest = MAGIC ++ half LIVE ++ half 0 ++ digest

-- what stands in front of the cells
abbrev pub before_cells : Registers → ℕ → ℕ → List ℕ → List ℕ
before_cells r position count digest =
    front digest ++ word position ++ cells (row_of r) ++ word count

-- the image, with the cells of the heap and of the stack
abbrev pub spelled : Registers → ℕ → ℕ → List ℕ → List ℤ → List ℤ → List ℕ
spelled r position count digest heap stack =
    before_cells r position count digest ++ cells heap ++ cells stack

-- The cells of a text (Language Guide, "Arrays", "String literals"): one character each and a
-- zero, or packed, four of them to a cell with the first one in the most significant byte, and at
-- least one zero byte at the end.
use Rattle.std.specs.Prelude.{ℕ, ℤ, pos, ◌+◌, ◌*◌, List, [], ◌∷◌, ◌++◌, length, map, Bool, true}
use Rattle.std.specs.Prelude.{false}
use Rattle.pawn_cells.specs.Cells.{cell_of}
use Rattle.pawn_meaning.specs.Program.{StaticObject}

-- a cell of four characters
abbrev pub packed_cell : ℕ → ℕ → ℕ → ℕ → ℤ
packed_cell a b c d = cell_of (((a * 256 + b) * 256 + c) * 256 + d)

-- characters four to a cell, filled with zero bytes
unfoldable pub packed_cells : List ℕ → List ℤ
packed_cells [] = pos 0 ∷ []
packed_cells (a ∷ []) = packed_cell a 0 0 0 ∷ []
packed_cells (a ∷ b ∷ []) = packed_cell a b 0 0 ∷ []
packed_cells (a ∷ b ∷ c ∷ []) = packed_cell a b c 0 ∷ []
packed_cells (a ∷ b ∷ c ∷ d ∷ more) = packed_cell a b c d ∷ packed_cells more

-- the cells of a text that is packed or isn't
abbrev pub text_cells : Bool → List ℕ → List ℤ
text_cells true bytes = packed_cells bytes
text_cells false bytes = map pos bytes ++ pos 0 ∷ []

-- the object that a literal is
abbrev pub text_object : Bool → List ℕ → StaticObject
text_object packed bytes = record {
  sizes = length (text_cells packed bytes) ∷ [];
  constant = false;
  first = text_cells packed bytes;
}

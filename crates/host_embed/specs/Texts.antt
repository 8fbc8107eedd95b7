-- Texts that are copied out of cells.
use Rattle.std.specs.Prelude.{◌≡◌, ◌++◌, ℕ, ℤ, List, Bool, true, false, Option, None, Some}
use Rattle.std.specs.Prelude.{length, take, drop}
use Rattle.std.specs.List.{flat_map}
use Rattle.host_script.specs.Script.{bytes_of}

-- the characters of cells, one or four of each
abbrev pub spread : Bool → List ℤ → List ℤ
spread true cells = flat_map bytes_of cells
spread false cells = cells

-- as many characters as there is room for, and their count; nothing where there is no text
abbrev pub IsCopied : Option (List ℤ) → List ℤ → Option ℕ → List ℤ → Type 0
IsCopied (Some text) old (Some n) new =
    (n ≡ length text) × (new ≡ take (length old) text ++ drop (length text) old)
IsCopied None old None new = new ≡ old
IsCopied (Some text) old None new = ⊥
IsCopied None old (Some n) new = ⊥

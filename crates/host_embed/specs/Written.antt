-- The cells of a text that is written.
use Rattle.std.specs.Prelude.{◌≡◌, ◌+◌, ◌/◌, ◌<◌, ◌++◌, ℕ, ℤ, pos, List, Bool, true, false, length}
use Rattle.std.specs.Prelude.{drop}
use Rattle.std.specs.List.{slice_index_or}
use Rattle.host_embed.specs.Texts.{spread}

-- how many characters stand in a cell
abbrev pub per_cell : Bool → ℕ
per_cell true = 4
per_cell false = 1

-- how many cells a text of so many bytes takes, with a zero behind it
abbrev pub text_cells : Bool → ℕ → ℕ
text_cells packed n = n / per_cell packed + 1

-- the characters of cells are the bytes of a text from a place on, and 0 behind its last
abbrev pub AreBytesFrom : Bool → List ℕ → ℕ → List ℤ → Type 0
AreBytesFrom packed text from cells =
    (i : ℕ) → i < length (spread packed cells)
    → slice_index_or (spread packed cells) i (pos 0) ≡ pos (slice_index_or text (from + i) 0)

-- the cells of a text
pub record IsText (packed : Bool) (text : List ℕ) (cells : List ℤ) : Type 0 where
  pub count : length cells ≡ text_cells packed (length text)
  pub bytes : AreBytesFrom packed text 0 cells

-- they stand in the place of a part's first
abbrev pub IsSpelled : Bool → List ℕ → List ℤ → List ℤ → Type 0
IsSpelled packed text old new =
    (cells : List ℤ) × IsText packed text cells × (new ≡ cells ++ drop (length cells) old)

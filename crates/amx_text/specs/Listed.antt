-- A file that is listed with a text: the text is its listing, its numbers and names fit the fields
-- of the lines, and its code is instructions up to its end.
use Rattle.std.specs.Prelude.{◌≡◌, ◌*◌, ◌^◌, ◌<◌, ◌≤◌, ℕ, List, All, length}
use Rattle.pawn_base.specs.Cells.{AreCells}
use Rattle.amx_ops.specs.declared.amx.Amx.{Amx}
use Rattle.amx_ops.specs.Instructions.{Placed, placed}
use Rattle.amx_ops.specs.Written.{Written, IsCodeOf}
use Rattle.amx_format.specs.Layout.{all_records}
use Rattle.amx_text.specs.Forms.{HeaderFits, RecordFits}
use Rattle.amx_text.specs.Listing.{header_of, listing}

-- the numbers and the names of a file fit the fields of its lines
pub record FieldsFit (amx : Amx) : Type 0 where
  pub header : HeaderFits (header_of amx)
  pub records : All RecordFits (all_records amx)
  pub code : AreCells amx.code
  pub store : AreCells amx.store

-- each line of code or of data begins at an address of eight digits
pub record PlacesFit (amx : Amx) : Type 0 where
  pub code : All (λ (it : Placed). it.at < 2 ^ 32) (placed amx.code)
  pub store : 4 * length amx.store ≤ 2 ^ 32

-- the file is listed with the text
pub record IsListed (amx : Amx) (text : List ℕ) : Type 0 where
  pub fields : FieldsFit amx
  pub places : PlacesFit amx
  pub its : List Written
  pub code : IsCodeOf its amx.code
  pub is : text ≡ listing amx

-- a text lists one file at most
abbrev pub ATextListsOneFile : Type 0
ATextListsOneFile =
    (text : List ℕ) (a b : Amx) → IsListed a text → IsListed b text → a ≡ b

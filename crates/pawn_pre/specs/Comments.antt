-- Comments: each is one blank where it begins, and nothing on its other lines (Language Guide,
-- "Comments").
use Rattle.std.specs.Prelude.{ℕ, ◌==◌, List, [], ◌∷◌, Bool, true, false, if◌then◌else◌, ◌&&◌}
use Rattle.pawn_pre.specs.declared.quote.Quote.{Quote}
use Rattle.pawn_pre.specs.declared.quote.Quote.TheVariants.{Outside}
use Rattle.pawn_pre.specs.Quote.{is_outside, quote_after}

-- where a byte of a line stands: in the text, within a literal or not, or in a comment of several
-- lines
pub data Part : Type 0 where
  Text : Quote → Part
  Remark : Part

-- a line without comments, and whether one goes on over its end
pub record Cleaned : Type 0 where
  pub bytes : List ℕ
  pub unclosed : Bool

-- a byte before such a line
abbrev pub with_byte : ℕ → Cleaned → Cleaned
with_byte b cleaned = record { bytes = b ∷ cleaned.bytes; unclosed = cleaned.unclosed }

-- literals are told apart by `\`; the line's end closes them
unfoldable pub clean : Part → List ℕ → Cleaned
clean (Text quote) [] = record { bytes = []; unclosed = false }
clean (Text quote) (b ∷ []) = record { bytes = b ∷ []; unclosed = false }
clean (Text quote) (b ∷ c ∷ rest) =
    if is_outside quote && ((b == 47) && (c == 47))
    then record { bytes = 32 ∷ []; unclosed = false }
    else (if is_outside quote && ((b == 47) && (c == 42)) then with_byte 32 (clean Remark rest)
    else with_byte b (clean (Text (quote_after 92 quote b)) (c ∷ rest)))
clean Remark [] = record { bytes = []; unclosed = true }
clean Remark (b ∷ []) = record { bytes = []; unclosed = true }
clean Remark (b ∷ c ∷ rest) =
    if (b == 42) && (c == 47) then clean (Text Outside) rest else clean Remark (c ∷ rest)

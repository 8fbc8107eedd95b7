-- Comments, byte by byte: what each byte writes, and what it leaves pending. No promise rests on
-- this; it is proved to be the definition of comments.
use Rattle.std.specs.Prelude.{ℕ, ◌==◌, List, [], ◌∷◌, ◌++◌, Bool, true, false}
use Rattle.std.specs.Prelude.{if◌then◌else◌, ◌&&◌}
use Rattle.pawn_pre.specs.Comments.{Cleaned}
use Rattle.pawn_pre.specs.declared.clean.Mode.{Mode}
use Rattle.pawn_pre.specs.declared.clean.Mode.TheVariants.{Reads, Slash, Over, Inside, Star}
use Rattle.pawn_pre.specs.declared.quote.Quote.TheVariants.{Outside}
use Rattle.pawn_pre.specs.Quote.{is_outside, quote_after}

-- what a byte writes, and the mode behind it
pub record Taken : Type 0 where
  pub out : List ℕ
  pub next : Mode

-- such a pair
abbrev pub took : List ℕ → Mode → Taken
took out next = record { out = out; next = next }

-- what a byte does in each mode
unfoldable pub one : Mode → ℕ → Taken
one (Reads quote) b =
    if is_outside quote && (b == 47) then took [] Slash
    else took (b ∷ []) (Reads (quote_after 92 quote b))
one Slash b =
    if b == 47 then took (32 ∷ []) Over
    else (if b == 42 then took (32 ∷ []) Inside
    else took (47 ∷ b ∷ []) (Reads (quote_after 92 Outside b)))
one Over b = took [] Over
one Inside b = if b == 42 then took [] Star else took [] Inside
one Star b =
    if b == 47 then took [] (Reads Outside)
    else (if b == 42 then took [] Star else took [] Inside)

-- what stands behind the last byte
unfoldable pub scan_end : Mode → Cleaned
scan_end (Reads quote) = record { bytes = []; unclosed = false }
scan_end Slash = record { bytes = 47 ∷ []; unclosed = false }
scan_end Over = record { bytes = []; unclosed = false }
scan_end Inside = record { bytes = []; unclosed = true }
scan_end Star = record { bytes = []; unclosed = true }

-- bytes written before a line
unfoldable pub before : List ℕ → Cleaned → Cleaned
before front cleaned = record { bytes = front ++ cleaned.bytes; unclosed = cleaned.unclosed }

-- what the bytes of a line write, from a mode on
unfoldable pub scan : Mode → List ℕ → Cleaned
scan mode [] = scan_end mode
scan mode (b ∷ rest) = before (one mode b).out (scan (one mode b).next rest)

-- the mode in which a line begins
abbrev pub mode_at : Bool → Mode
mode_at true = Inside
mode_at false = Reads Outside

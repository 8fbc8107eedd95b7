-- `#define PATTERN TEXT` and `#undef KEY` (Language Guide, "Directives", on `#define`).
use Rattle.std.specs.Prelude.{ℕ, ◌==◌, not, is_some, position, Option, Some, None, List, [], ◌∷◌}
use Rattle.std.specs.Prelude.{take, drop, Bool, true, false, if◌then◌else◌, ◌&&◌}
use Rattle.std.specs.List.{list_any, list_all}
use Rattle.pawn_pre.specs.declared.quote.Quote.TheVariants.{Outside}
use Rattle.pawn_pre.specs.declared.piece.Piece.{Piece}
use Rattle.pawn_pre.specs.declared.piece.Piece.TheVariants.{Byte, Param}
use Rattle.pawn_pre.specs.declared.define.Definition.{Definition}
use Rattle.pawn_token.specs.declared.class.Class.TheVariants as class
use Rattle.pawn_token.specs.Class.{is_in}
use Rattle.pawn_pre.specs.Blanks.{past_blanks, trimmed, front_word, behind_word}
use Rattle.pawn_pre.specs.Piece.{pieces, follower}

-- a name stands in front
abbrev pub begins_name : List ℕ → Bool
begins_name [] = false
begins_name (b ∷ rest) = is_in class.NameStart b

-- each parameter stands once, and a byte follows it
unfoldable pub is_tail : List ℕ → List Piece → Bool
is_tail seen [] = true
is_tail seen (Byte b ∷ rest) = is_tail seen rest
is_tail seen (Param n ∷ rest) =
    is_some (follower rest) && (not (list_any (λ m. m == n) seen) && is_tail (n ∷ seen) rest)

-- the parameter of this digit
abbrev pub is_param : ℕ → Piece → Bool
is_param n (Byte b) = false
is_param n (Param m) = m == n

-- a text's parameter stands in the tail
abbrev pub is_known : List Piece → Piece → Bool
is_known tail (Byte b) = true
is_known tail (Param n) = list_any (is_param n) tail

-- all parameters of a text do
abbrev pub is_text : List Piece → List Piece → Bool
is_text tail text = list_all (is_known tail) text

-- good where there is a key, the tail is good, and the text uses only its parameters
abbrev pub checked : ℕ → List ℕ → List ℕ → List Piece → Option Definition
checked control pattern text tail =
    if begins_name pattern && (is_tail [] tail && is_text tail (pieces (Some control) Outside text))
    then Some (record { key = front_word pattern; rule = record { tail = tail; text = text } })
    else None

-- a pattern is a key and its tail
abbrev pub of_parts : ℕ → List ℕ → List ℕ → Option Definition
of_parts control pattern text =
    checked control pattern text (pieces None Outside (behind_word pattern))

-- by the place of the first blank
abbrev pub split_by : ℕ → List ℕ → Option ℕ → Option Definition
split_by control body None = of_parts control body (trimmed [])
split_by control body (Some len) = of_parts control (take len body) (trimmed (drop len body))

-- the pattern ends at the first blank; the text loses the blanks at its ends
abbrev pub definition : ℕ → List ℕ → Option Definition
definition control rest =
    let body = past_blanks rest in split_by control body (position (is_in class.Blank) body)

-- a name in front, if one stands there
abbrev pub undefined_by : List ℕ → Option (List ℕ)
undefined_by bytes = if begins_name bytes then Some (front_word bytes) else None

-- the key of `#undef`, behind blanks
abbrev pub undefined : List ℕ → Option (List ℕ)
undefined rest = undefined_by (past_blanks rest)

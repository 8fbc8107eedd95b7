-- Substitution in a line: a step goes from a line with a cursor to the next one, at most 1,000
-- times (Language Guide, "Preprocessor", on text substitution).
use Rattle.std.specs.Prelude.{ℕ, ◌+◌, ◌==◌, zero, suc, not, nat_lt, Option, Some, None, Result}
use Rattle.std.specs.Prelude.{Ok, Err, List, [], ◌∷◌, ◌++◌, length, Bool, false}
use Rattle.std.specs.Prelude.{if◌then◌else◌, ◌&&◌}
use Rattle.std.specs.Option.{option_map}
use Rattle.std.specs.List.{find}
use Rattle.pawn_pre.specs.declared.quote.Quote.{Quote}
use Rattle.pawn_pre.specs.declared.quote.Quote.TheVariants.{Outside}
use Rattle.pawn_pre.specs.declared.piece.Piece.{Piece}
use Rattle.pawn_pre.specs.declared.piece.Piece.TheVariants.{Byte, Param}
use Rattle.pawn_pre.specs.declared.matching.Given.{Given}
use Rattle.pawn_pre.specs.declared.rule.Rule.{Rule}
use Rattle.std.specs.FinMap.{get}
use Rattle.pawn_pre.specs.Table.{Rules}
use Rattle.pawn_token.specs.declared.class.Class.TheVariants as class
use Rattle.pawn_token.specs.Class.{is_in}
use Rattle.pawn_pre.specs.Blanks.{front_word, behind_word}
use Rattle.pawn_pre.specs.Quote.{is_outside, quote_after}
use Rattle.pawn_pre.specs.Piece.{pieces}
use Rattle.pawn_pre.specs.Matching.{Match, matched}

-- what a parameter took; one that the tail lacks stays as it is
abbrev pub bytes_given : ℕ → Option Given → List ℕ
bytes_given n None = 37 ∷ n ∷ []
bytes_given n (Some given) = given.bytes

-- the bytes in a piece's place
abbrev pub bytes_for : List Given → Piece → List ℕ
bytes_for given (Byte b) = b ∷ []
bytes_for given (Param n) = bytes_given n (find (λ (g : Given). g.number == n) given)

-- a text with what the parameters took
unfoldable pub filled : List Given → List Piece → List ℕ
filled given [] = []
filled given (piece ∷ text) = bytes_for given piece ++ filled given text

-- the text in a match's place, and the line behind it
abbrev pub replaced : ℕ → List ℕ → Match → List ℕ
replaced control text m = filled m.given (pieces (Some control) Outside text) ++ m.rest

-- the bytes behind a key, where a definition has that key and its tail matches
abbrev pub place_by : ℕ → Option Rule → List ℕ → Option (List ℕ)
place_by control None behind = None
place_by control (Some rule) behind =
    option_map (replaced control rule.text) (matched control rule.tail behind)

-- a match whose key stands in front
unfoldable pub place_at : Rules → ℕ → List ℕ → Option (List ℕ)
place_at rules control bytes =
    place_by control (get rules (front_word bytes)) (behind_word bytes)

-- a whole name begins here
abbrev pub begins_whole_name : Quote → Bool → ℕ → Bool
begins_whole_name quote joined b = is_outside quote && (not joined && is_in class.NameStart b)

-- a line around its cursor
pub record Cursor : Type 0 where
  pub before : List ℕ
  pub after : List ℕ

-- a cursor, with more bytes before it
unfoldable pub with_before : List ℕ → Option Cursor → Option Cursor
with_before front None = None
with_before front (Some cursor) =
    Some (record { before = front ++ cursor.before; after = cursor.after })

-- a place here, or a later one
abbrev pub or_later : Option (List ℕ) → Option Cursor → Option Cursor
or_later None later = later
or_later (Some after) later = Some (record { before = []; after = after })

-- the first place that matches is replaced, and the cursor stays there
unfoldable pub substituted : Rules → ℕ → Quote → Bool → List ℕ → Option Cursor
substituted rules control quote joined [] = None
substituted rules control quote joined (b ∷ rest) =
    or_later (if begins_whole_name quote joined b then place_at rules control (b ∷ rest) else None)
    (with_before (b ∷ [])
    (substituted rules control (quote_after control quote b) (is_in class.NameByte b) rest))

-- more than 4,095 bytes
abbrev pub is_long : ℕ → Bool
is_long n = nat_lt 4095 n

-- what a step comes to where so many may be made
abbrev pub turn_by : Option Cursor → ℕ → List ℕ → List ℕ →
    (ℕ → List ℕ → List ℕ → Result (List ℕ) ℕ) → Result (List ℕ) ℕ
turn_by None left done after go_on = Ok (done ++ after)
turn_by (Some cursor) zero done after go_on = Err 7
turn_by (Some cursor) (suc left) done after go_on =
    if is_long (length (done ++ cursor.before) + length cursor.after) then Err 9
    else go_on left (done ++ cursor.before) cursor.after

-- so many steps may be made; fault 7 at one more, 9 at a line that is too long
unfoldable pub steps : Rules → ℕ → ℕ → List ℕ → List ℕ → Result (List ℕ) ℕ
steps rules control zero done after =
    turn_by (substituted rules control Outside false after) zero done after
    (λ left done' after'. Err 7)
steps rules control (suc left) done after =
    turn_by (substituted rules control Outside false after) (suc left) done after
    (λ left' done' after'. steps rules control left done' after')

-- a line with its names replaced; fault 9 too where it is too long before that
unfoldable pub expanded : Rules → ℕ → List ℕ → Result (List ℕ) ℕ
expanded rules control bytes =
    if is_long (length bytes) then Err 9 else steps rules control 1000 [] bytes

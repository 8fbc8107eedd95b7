-- A token that is no text, as a function of the place where it stands.
use Rattle.std.specs.Prelude.{◌≡◌, ℕ, pos, List, Bool, false, Option, Some, None, Result, Ok, Err}
use Rattle.std.specs.Prelude.{length, drop, ◌==◌, ◌&&◌, if◌then◌else◌}
use Rattle.pawn_token.specs.declared.class.Class.TheVariants as class
use Rattle.pawn_token.specs.declared.kind.TokenKind.{TokenKind}
use Rattle.pawn_token.specs.declared.kind.TokenKind.TheVariants as kind
use Rattle.pawn_token.specs.declared.sign.Sign.{Sign}
use Rattle.pawn_token.specs.Class.{is_in, run, after, byte_at}
use Rattle.pawn_token.specs.Forms.{Word, Numeral, kind_of, IsToken}
use Rattle.pawn_token.specs.Literal.{character_at}
use Rattle.pawn_token.specs.Reading.{radix_at, number_value, past_digits, sign_at}
use Rattle.pawn_token.specs.Signs.{sign_spelling}

-- a token with what follows it
abbrev pub Found : Type 0
Found = TokenKind × List ℕ

-- a form's token, if it is a good one
abbrev pub found_by : Result TokenKind ℕ → List ℕ → Option Found
found_by (Ok kind) rest = Some (kind, rest)
found_by (Err fault) rest = None

-- a character's
abbrev pub character_by : Result (ℕ × List ℕ) ℕ → Option Found
character_by (Ok read) = Some (kind.Number (pos read.0), read.1)
character_by (Err fault) = None

-- a sign's
abbrev pub sign_by : List ℕ → Option Sign → Option Found
sign_by at (Some sign) = Some (kind.Sign sign, drop (length (sign_spelling sign)) at)
sign_by at None = None

-- the name or key word at a place
abbrev pub word_found : List ℕ → Option Found
word_found at =
    found_by (kind_of (Word (run class.NameByte at)) (after class.NameByte at))
    (after class.NameByte at)

-- the number at a place
abbrev pub number_found : List ℕ → Option Found
number_found at =
    found_by (kind_of (Numeral (number_value (radix_at at) at)) (past_digits (radix_at at) at))
    (past_digits (radix_at at) at)

-- a sign, where no quote stands
abbrev pub sign_found : List ℕ → Option Found
sign_found at =
    if byte_at at 0 == 33 && byte_at at 1 == 34 then None else sign_by at (sign_at at)

-- a character or a sign, where no text stands
abbrev pub quote_found : ℕ → List ℕ → Option Found
quote_found control at =
    if byte_at at 0 == 39 then character_by (character_at control (drop 1 at))
    else if byte_at at 0 == 34 then None else sign_found at

-- a number, a character or a sign
abbrev pub other_found : ℕ → List ℕ → Option Found
other_found control at =
    if is_in class.Digit (byte_at at 0) then number_found at else quote_found control at

-- the token at a place, and none where a text or a fault stands
unfoldable pub plain_at : ℕ → List ℕ → Option Found
plain_at control at =
    if is_in class.NameStart (byte_at at 0) then word_found at else other_found control at

-- a token of this kind is a text
abbrev pub IsAText : TokenKind → Type 0
IsAText found = (bytes : List ℕ) × (packed : Bool) × (found ≡ kind.Text bytes packed)

-- what is found is the token there; where nothing is, only a text can be
abbrev pub IsSeen : ℕ → List ℕ → Option Found → Type 0
IsSeen control at (Some found) = IsToken control false at found.0 found.1
IsSeen control at None =
    (found : TokenKind) (rest : List ℕ) → IsToken control false at found rest → IsAText found

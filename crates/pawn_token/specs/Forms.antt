-- Single tokens, as the Pawn Language Guide's general syntax gives them: what bytes spell, the
-- longest spelling at a place, and which token or fault that is.
use Rattle.std.specs.Prelude.{◌≡◌, ◌≢◌, ◌≤◌, ◌<◌, ℕ, ℤ, pos, List, ◌∷◌, ◌++◌, Bool, true, false}
use Rattle.std.specs.Prelude.{not, IsTrue, Option, Some, None, Result, Ok, Err, length, codes}
use Rattle.std.specs.Prelude.{nat_le, if◌then◌else◌}
use Rattle.pawn_token.specs.declared.class.Class.TheVariants as class
use Rattle.pawn_token.specs.declared.key.Key.{Key}
use Rattle.pawn_token.specs.declared.sign.Sign.{Sign}
use Rattle.pawn_token.specs.declared.kind.TokenKind.{TokenKind}
use Rattle.pawn_token.specs.declared.kind.TokenKind.TheVariants as kind
use Rattle.std.specs.List.{list_all}
use Rattle.pawn_token.specs.Class.{is_in, byte_at}
use Rattle.pawn_token.specs.Fault.{bad_byte, name_too_long}
use Rattle.pawn_token.specs.Keys.{key_of}
use Rattle.pawn_token.specs.Literal.{IsBody, HasFault, character_at}
use Rattle.pawn_token.specs.Number.{IsNumeral, cell_of}
use Rattle.pawn_token.specs.Signs.{sign_spelling}

-- what bytes can spell, before any limit
pub data Form : Type 0 where
  Word : List ℕ → Form
  Numeral : ℕ → Form
  Character : ℕ → Form
  Literal : List ℕ → Bool → Form
  Mark : Sign → Form

-- a text begins by a quote; behind `!` it is of the other packing
abbrev pub opening : Bool → List ℕ
opening false = codes "\""
opening true = codes "!\""

-- the setting, or the other one
abbrev pub other_if : Bool → Bool → Bool
other_if false packed = packed
other_if true packed = not packed

-- a letter, then letters and digits
pub record IsWord (spelling : List ℕ) : Type 0 where
  pub letter : IsTrue (is_in class.NameStart (byte_at spelling 0))
  pub word : IsTrue (list_all (is_in class.NameByte) spelling)

-- behind a single quote one byte or escape and the quote
pub record IsCharacter (control : ℕ) (at : List ℕ) (byte : ℕ) (rest : List ℕ) : Type 0 where
  pub inside : List ℕ
  pub opened : at ≡ 39 ∷ inside
  pub read : character_at control inside ≡ Ok (byte, rest)

-- behind its opening bytes and escapes and the quote
pub record IsText (control : ℕ) (setting : Bool) (at bytes : List ℕ) (packed : Bool)
    (rest : List ℕ) : Type 0 where
  pub turned : Bool
  pub inside : List ℕ
  pub opened : at ≡ opening turned ++ inside
  pub body : IsBody control 34 inside bytes rest
  pub packing : packed ≡ other_if turned setting

-- `!` directly before a text is no sign
pub record IsSign (sign : Sign) (spelling rest : List ℕ) : Type 0 where
  pub spelled : spelling ≡ sign_spelling sign
  pub no_text : spelling ≡ codes "!" → byte_at rest 0 ≢ 34

-- a form is spelled by these bytes, at a place with these others behind them
abbrev pub IsSpelled : ℕ → Bool → List ℕ → Form → List ℕ → List ℕ → Type 0
IsSpelled control setting at (Word word) spelling rest = (word ≡ spelling) × IsWord spelling
IsSpelled control setting at (Numeral value) spelling rest = IsNumeral spelling value
IsSpelled control setting at (Character byte) spelling rest = IsCharacter control at byte rest
IsSpelled control setting at (Literal bytes packed) spelling rest =
    IsText control setting at bytes packed rest
IsSpelled control setting at (Mark sign) spelling rest = IsSign sign spelling rest

-- a form stands at a place, with these bytes behind it
pub record Fits (control : ℕ) (setting : Bool) (at : List ℕ) (form : Form)
    (spelling rest : List ℕ) : Type 0 where
  pub parts : at ≡ spelling ++ rest
  pub spelled : IsSpelled control setting at form spelling rest

-- no form has a longer spelling there
pub record IsLongest (control : ℕ) (setting : Bool) (at : List ℕ) (form : Form)
    (spelling rest : List ℕ) : Type 0 where
  pub fits : Fits control setting at form spelling rest
  pub longest : (other : Form) (longer more : List ℕ) → Fits control setting at other longer more
      → length longer ≤ length spelling

-- a key word is no name, and a name has at most 31 bytes
abbrev pub word_kind : List ℕ → Option Key → Result TokenKind ℕ
word_kind word (Some key) = Ok (kind.Key key)
word_kind word None = if nat_le (length word) 31 then Ok (kind.Name word) else Err name_too_long

-- a number is a cell
abbrev pub number_kind : Result ℤ ℕ → Result TokenKind ℕ
number_kind (Ok cell) = Ok (kind.Number cell)
number_kind (Err fault) = Err fault

-- the token that a form is, or its fault, where it is the longest and these bytes are behind it
abbrev pub kind_of : Form → List ℕ → Result TokenKind ℕ
kind_of (Word word) rest = word_kind word (key_of word)
kind_of (Numeral value) rest = number_kind (cell_of value rest)
kind_of (Character byte) rest = Ok (kind.Number (pos byte))
kind_of (Literal bytes packed) rest = Ok (kind.Text bytes packed)
kind_of (Mark sign) rest = Ok (kind.Sign sign)

-- a token and what follows it
pub record IsToken (control : ℕ) (setting : Bool) (at : List ℕ) (kind : TokenKind)
    (rest : List ℕ) : Type 0 where
  pub form : Form
  pub spelling : List ℕ
  pub longest : IsLongest control setting at form spelling rest
  pub kind_is : kind_of form rest ≡ Ok kind

-- no form fits, and no literal is opened
pub record IsStrange (control : ℕ) (setting : Bool) (at : List ℕ) : Type 0 where
  pub first : 0 < length at
  pub no_form : (form : Form) (spelling rest : List ℕ)
      → ¬ Fits control setting at form spelling rest
  pub no_character : byte_at at 0 ≢ 39
  pub no_text : (turned : Bool) (inside : List ℕ) → at ≢ opening turned ++ inside

-- why no token stands there: the longest form isn't good, a literal isn't, or nothing fits
pub data IsFault (control : ℕ) (setting : Bool) (at : List ℕ) (fault : ℕ) : Type 0 where
  BadForm : (form : Form) (spelling rest : List ℕ) → IsLongest control setting at form spelling rest
      → kind_of form rest ≡ Err fault → IsFault control setting at fault
  BadCharacter : (inside : List ℕ) → at ≡ 39 ∷ inside → character_at control inside ≡ Err fault
      → IsFault control setting at fault
  BadText : (turned : Bool) (inside : List ℕ) → at ≡ opening turned ++ inside
      → HasFault control 34 inside fault → IsFault control setting at fault
  Strange : IsStrange control setting at → fault ≡ bad_byte → IsFault control setting at fault

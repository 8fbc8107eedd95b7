-- Literals, as the Pawn Language Guide's general syntax gives them: bytes and escapes up to the
-- quote. An escape begins with the control character of its line.
use Rattle.std.specs.Prelude.{◌≡◌, ℕ, List, [], ◌∷◌, Option, Some, None, Result, Ok, Err, nat_lt}
use Rattle.std.specs.Prelude.{◌==◌, ◌||◌, if◌then◌else◌, drop}
use Rattle.std.specs.Str.Parse.{digits_value}
use Rattle.pawn_token.specs.declared.class.Class.{Class}
use Rattle.pawn_token.specs.declared.class.Class.TheVariants as class
use Rattle.pawn_token.specs.Class.{is_digit, run, after, byte_at}
use Rattle.pawn_token.specs.Fault.{open_text, bad_escape}

-- what begins at a place in a literal: its end, a byte with what follows it, or a fault
pub data Next : Type 0 where
  Closes : Next
  Is : ℕ → List ℕ → Next
  Fails : ℕ → Next

-- the byte that a letter stands for behind the control character
unfoldable pub named : ℕ → Option ℕ
named letter =
    if letter == 97 then Some 7 else if letter == 98 then Some 8
    else if letter == 101 then Some 27 else if letter == 102 then Some 12
    else if letter == 110 then Some 10 else if letter == 114 then Some 13
    else if letter == 116 then Some 9 else if letter == 118 then Some 11
    else None

-- a semicolon may end the digits of an escape
unfoldable pub past_semicolon : List ℕ → List ℕ
past_semicolon rest = if byte_at rest 0 == 59 then drop 1 rest else rest

-- the byte whose number these digits write
unfoldable pub byte_of : ℕ → List ℕ → List ℕ → Next
byte_of base [] rest = Fails bad_escape
byte_of base (digit ∷ digits) rest =
    if nat_lt (digits_value base (digit ∷ digits)) 256
    then Is (digits_value base (digit ∷ digits)) (past_semicolon rest)
    else Fails bad_escape

-- the byte whose number the digits at the front write
unfoldable pub coded : ℕ → Class → List ℕ → Next
coded base class bytes = byte_of base (run class bytes) (after class bytes)

-- an escape that begins with no letter of its own: a quote, `%`, the control character itself or a
-- number
unfoldable pub unnamed : ℕ → ℕ → List ℕ → Next
unnamed control first rest =
    if first == control || first == 39 || first == 34 || first == 37 then Is first rest
    else if is_digit first then coded 10 class.Digit (first ∷ rest)
    else if first == 120 then coded 16 class.Hexadecimal rest
    else Fails bad_escape

-- a letter goes before all else
abbrev pub named_or : Next → List ℕ → Option ℕ → Next
named_or other rest (Some byte) = Is byte rest
named_or other rest None = other

-- an escape, behind the control character
unfoldable pub escape : ℕ → List ℕ → Next
escape control [] = Fails bad_escape
escape control (first ∷ rest) = named_or (unnamed control first rest) rest (named first)

-- the control character goes before the quote
unfoldable pub next : ℕ → ℕ → List ℕ → Next
next control quote [] = Fails open_text
next control quote (first ∷ rest) =
    if first == control then escape control rest
    else if first == quote then Closes
    else Is first rest

-- a character whose byte has been read: the quote ends it
abbrev pub ended_by : ℕ → List ℕ → Next → Result (ℕ × List ℕ) ℕ
ended_by byte end Closes = Ok (byte, drop 1 end)
ended_by byte end (Is other rest) = Err open_text
ended_by byte end (Fails fault) = Err open_text

-- a character by what stands behind its first quote
abbrev pub begun_by : ℕ → Next → Result (ℕ × List ℕ) ℕ
begun_by control Closes = Err open_text
begun_by control (Is byte end) = ended_by byte end (next control 39 end)
begun_by control (Fails fault) = Err fault

-- a character behind its quote: one byte or escape, and the quote
unfoldable pub character_at : ℕ → List ℕ → Result (ℕ × List ℕ) ℕ
character_at control bytes = begun_by control (next control 39 bytes)

-- from a place in a literal these bytes are spelled up to another place
abbrev pub Spells : ℕ → ℕ → List ℕ → List ℕ → List ℕ → Type 0
Spells control quote at [] end = at ≡ end
Spells control quote at (byte ∷ bytes) end =
    (rest : List ℕ) × (next control quote at ≡ Is byte rest) × Spells control quote rest bytes end

-- a whole literal behind its first quote: its bytes, and what follows its last quote
pub record IsBody (control quote : ℕ) (at bytes rest : List ℕ) : Type 0 where
  pub end : List ℕ
  pub spelled : Spells control quote at bytes end
  pub closed : next control quote end ≡ Closes
  pub rest_is : rest ≡ drop 1 end

-- a literal that isn't good, from behind its first quote, at its first fault
pub record HasFault (control quote : ℕ) (at : List ℕ) (fault : ℕ) : Type 0 where
  pub bytes : List ℕ
  pub end : List ℕ
  pub spelled : Spells control quote at bytes end
  pub fails : next control quote end ≡ Fails fault

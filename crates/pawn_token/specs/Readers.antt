-- What the readers of single tokens answer. Want of memory is free.
use Rattle.std.specs.Prelude.{◌≡◌, ℕ, pos, List, Bool, Result, Ok, Err, Some, None, length, drop}
use Rattle.std.specs.Borrow.{Bor}
use Rattle.pawn_token.specs.declared.fault.TokenFault.{TokenFault}
use Rattle.pawn_token.specs.declared.fault.TokenFault.TheVariants as bad
use Rattle.pawn_token.specs.declared.kind.TokenKind.{TokenKind}
use Rattle.pawn_token.specs.declared.kind.TokenKind.TheVariants as kind
use Rattle.pawn_token.specs.declared.sign.Sign.{Sign}
use Rattle.pawn_token.specs.Fault.{bad_byte}
use Rattle.pawn_token.specs.Forms.{IsToken, IsFault}
use Rattle.pawn_token.specs.Literal.{IsBody, HasFault, character_at}
use Rattle.pawn_token.specs.Reading.{sign_at}
use Rattle.pawn_token.specs.Signs.{sign_spelling}

-- this token with these bytes behind it, or this fault
abbrev pub Gives : Result TokenKind ℕ → List ℕ → Result (TokenKind × Bor (List ℕ)) TokenFault
    → Type 0
Gives token rest (Ok read) = (token ≡ Ok read.0) × (read.1.now ≡ rest)
Gives token rest (Err (bad.Source fault)) = token ≡ Err fault
Gives token rest (Err bad.Memory) = Unit {0}

-- a character behind its quote as a token, or its fault
abbrev pub GivesCharacter : ℕ → List ℕ → Result (TokenKind × Bor (List ℕ)) TokenFault → Type 0
GivesCharacter control inside (Ok read) =
    (byte : ℕ) × (read.0 ≡ kind.Number (pos byte))
    × (character_at control inside ≡ Ok (byte, read.1.now))
GivesCharacter control inside (Err (bad.Source fault)) = character_at control inside ≡ Err fault
GivesCharacter control inside (Err bad.Memory) = Unit {0}

-- a text behind its quote as a token, or its first fault
abbrev pub GivesText : ℕ → Bool → List ℕ → Result (TokenKind × Bor (List ℕ)) TokenFault → Type 0
GivesText control packed inside (Ok read) =
    (bytes : List ℕ) × (read.0 ≡ kind.Text bytes packed) × IsBody control 34 inside bytes read.1.now
GivesText control packed inside (Err (bad.Source fault)) = HasFault control 34 inside fault
GivesText control packed inside (Err bad.Memory) = Unit {0}

-- the longest sign in front as a token, or the fault of a byte that begins none
abbrev pub GivesSign : List ℕ → Result (TokenKind × Bor (List ℕ)) TokenFault → Type 0
GivesSign at (Ok read) =
    (sign : Sign) × (read.0 ≡ kind.Sign sign) × (sign_at at ≡ Some sign)
    × (read.1.now ≡ drop (length (sign_spelling sign)) at)
GivesSign at (Err (bad.Source fault)) = (fault ≡ bad_byte) × (sign_at at ≡ None)
GivesSign at (Err bad.Memory) = ⊥

-- the token at a place and what follows it, or its fault
abbrev pub IsRead : ℕ → Bool → List ℕ → Result (TokenKind × Bor (List ℕ)) TokenFault → Type 0
IsRead control setting at (Ok read) = IsToken control setting at read.0 read.1.now
IsRead control setting at (Err (bad.Source fault)) = IsFault control setting at fault
IsRead control setting at (Err bad.Memory) = Unit {0}

-- What the readers of single tokens answer: what stands at the front of bytes, and what follows it.
use Rattle.std.specs.Prelude.{ℕ, List, Option, Some, None, Result, Ok, Err, length, ◌==◌, ◌&&◌}
use Rattle.std.specs.Prelude.{if◌then◌else◌, drop, find, nat_eq}
use Rattle.std.specs.Borrow.{Bor}
use Rattle.std.specs.List.{starts_with}
use Rattle.std.specs.Str.Parse.{digits_value}
use Rattle.pawn_token.specs.declared.class.Class.TheVariants as class
use Rattle.pawn_token.specs.declared.number.Radix.{Radix}
use Rattle.pawn_token.specs.declared.number.Radix.TheVariants.{Ten, Sixteen, Two}
use Rattle.pawn_token.specs.declared.sign.Sign.{Sign}
use Rattle.pawn_token.specs.declared.sign.TheConstants.{SIGNS}
use Rattle.pawn_token.specs.declared.fault.TokenFault.{TokenFault}
use Rattle.pawn_token.specs.declared.fault.TokenFault.TheVariants as bad
use Rattle.pawn_token.specs.Class.{is_in, run, after, byte_at}
use Rattle.pawn_token.specs.Literal.{Next, Closes, Is, Fails, IsBody, HasFault}
use Rattle.pawn_token.specs.Number.{prefix, digit_class, base}
use Rattle.pawn_token.specs.Signs.{sign_spelling}

-- an answer as a value: what follows is lent
abbrev pub seen : {X : Type 0} → Result (X × Bor (List ℕ)) ℕ → Result (X × List ℕ) ℕ
seen (Ok read) = Ok (read.0, read.1.now)
seen (Err fault) = Err fault

-- the radix of the longest number at the front
unfoldable pub radix_at : List ℕ → Radix
radix_at bytes =
    if byte_at bytes 0 == 48 && byte_at bytes 1 == 120 && is_in class.Hexadecimal (byte_at bytes 2)
    then Sixteen
    else if byte_at bytes 0 == 48 && byte_at bytes 1 == 98 && is_in class.Binary (byte_at bytes 2)
    then Two
    else Ten

-- the digits of the number at the front in a radix
abbrev pub digits_at : Radix → List ℕ → List ℕ
digits_at radix bytes = run (digit_class radix) (drop (length (prefix radix)) bytes)

-- what follows those digits
abbrev pub past_digits : Radix → List ℕ → List ℕ
past_digits radix bytes = after (digit_class radix) (drop (length (prefix radix)) bytes)

-- the value of those digits
abbrev pub number_value : Radix → List ℕ → ℕ
number_value radix bytes = digits_value (base radix) (digits_at radix bytes)

-- an answer inside a literal
abbrev pub unit_seen : Result (Option (ℕ × Bor (List ℕ))) ℕ → Next
unit_seen (Ok None) = Closes
unit_seen (Ok (Some read)) = Is read.0 read.1.now
unit_seen (Err fault) = Fails fault

-- the answer is the text behind its quote, or its first fault
abbrev pub ReadsText : ℕ → List ℕ → Result (List ℕ × Bor (List ℕ)) TokenFault → Type 0
ReadsText control bytes (Ok read) = IsBody control 34 bytes read.0 read.1.now
ReadsText control bytes (Err (bad.Source fault)) = HasFault control 34 bytes fault
ReadsText control bytes (Err bad.Memory) = Unit {0}

-- the first of all signs, longer ones first, that stands at the front
unfoldable pub sign_at : List ℕ → Option Sign
sign_at bytes = find (λ sign. starts_with nat_eq bytes (sign_spelling sign)) SIGNS

-- The bytes of literals are bytes, and are no more than those that they are read from.
use Rattle.std.proofs.Common.{◌≡◌, ◌<◌, ◌≤◌, ℕ, List, [], ◌∷◌, ◌++◌, Bool, true, false, Option}
use Rattle.std.proofs.Common.{Some, None, Result, Ok, Err, cond, length, refl, ap, subst, nat_lt}
use Rattle.std.proofs.Common.{◌==◌, ◌||◌, arith}
use Rattle.std.specs.Str.Parse.{digits_value}
use Rattle.std.proofs.lemmas.Bool.{ltb-true}
use Rattle.pawn_token.specs.declared.class.Class.{Class}
use Rattle.pawn_token.specs.declared.class.Class.TheVariants as class
use Rattle.pawn_token.specs.Class.{is_digit, run, after}
use Rattle.pawn_token.specs.Literal.{Next, Closes, Is, Fails, named, past_semicolon, byte_of, coded}
use Rattle.pawn_token.specs.Literal.{unnamed, named_or, escape, next, Spells, character_at}
use Rattle.pawn_token.specs.Literal.{begun_by, ended_by}
use Rattle.pawn_token.proofs.LiteralLaws.{IsEnd, next_ends, next_shorter}
use Rattle.types_laws.specs.Written.{AreBytes}

-- ---- bytes of a part

pub bytes_right : (front rest : List ℕ) → AreBytes (front ++ rest) → AreBytes rest
bytes_right [] rest h = h
bytes_right (byte ∷ front) rest h = bytes_right front rest h.1

pub bytes_left : (front rest : List ℕ) → AreBytes (front ++ rest) → AreBytes front
bytes_left [] rest h = tt
bytes_left (byte ∷ front) rest h = (h.0, bytes_left front rest h.1)

pub bytes_end : (whole rest : List ℕ) → IsEnd whole rest → AreBytes whole → AreBytes rest
bytes_end whole rest e h =
    bytes_right e.front rest (subst (λ (l : List ℕ). AreBytes l) e.parts h)

-- ---- one byte of a literal

-- a byte that is read is one
abbrev IsByte : Next → Type 0
IsByte Closes = Unit {0}
IsByte (Is byte rest) = byte < 256
IsByte (Fails fault) = Unit {0}

either : (b : Bool) (x y : Next) → IsByte x → IsByte y → IsByte (cond b x y)
either true x y h k = h
either false x y h k = k

valued : (b : Bool) (value : ℕ) (rest : List ℕ) (other : Next) → nat_lt value 256 ≡ b → IsByte other
    → IsByte (cond b (Is value rest) other)
valued true value rest other e h = ltb-true value 256 e
valued false value rest other e h = h

byte_of_fits : (base : ℕ) (digits rest : List ℕ) → IsByte (byte_of base digits rest)
unfolding byte_of
byte_of_fits base [] rest = tt
byte_of_fits base (digit ∷ digits) rest =
    valued (nat_lt (digits_value base (digit ∷ digits)) 256) (digits_value base (digit ∷ digits))
    (past_semicolon rest) _ refl tt

coded_fits : (base : ℕ) (class : Class) (bytes : List ℕ) → IsByte (coded base class bytes)
unfolding coded
coded_fits base class bytes = byte_of_fits base (run class bytes) (after class bytes)

unnamed_fits : (control first : ℕ) (rest : List ℕ) → first < 256
    → IsByte (unnamed control first rest)
unfolding unnamed
unnamed_fits control first rest h =
    either (first == control || first == 39 || first == 34 || first == 37) _ _ h
    (either (is_digit first) _ _ (coded_fits 10 class.Digit (first ∷ rest))
    (either (first == 120) _ _ (coded_fits 16 class.Hexadecimal rest) tt))

-- the byte of a letter
abbrev IsSmall : Option ℕ → Type 0
IsSmall None = Unit {0}
IsSmall (Some byte) = byte < 256

one_of : (b : Bool) (x y : Option ℕ) → IsSmall x → IsSmall y → IsSmall (cond b x y)
one_of true x y h k = h
one_of false x y h k = k

named_fits : (letter : ℕ) → IsSmall (named letter)
unfolding named
named_fits letter =
    one_of (letter == 97) _ _ (omega arith) (one_of (letter == 98) _ _ (omega arith)
    (one_of (letter == 101) _ _ (omega arith) (one_of (letter == 102) _ _ (omega arith)
    (one_of (letter == 110) _ _ (omega arith) (one_of (letter == 114) _ _ (omega arith)
    (one_of (letter == 116) _ _ (omega arith) (one_of (letter == 118) _ _ (omega arith) tt)))))))

named_or_fits : (other : Next) (rest : List ℕ) (found : Option ℕ) → IsByte other → IsSmall found
    → IsByte (named_or other rest found)
named_or_fits other rest None h k = h
named_or_fits other rest (Some byte) h k = k

escape_fits : (control : ℕ) (bytes : List ℕ) → AreBytes bytes → IsByte (escape control bytes)
unfolding escape
escape_fits control [] h = tt
escape_fits control (first ∷ rest) h =
    named_or_fits (unnamed control first rest) rest (named first)
    (unnamed_fits control first rest h.0) (named_fits first)

next_fits : (control quote : ℕ) (at : List ℕ) → AreBytes at → IsByte (next control quote at)
unfolding next
next_fits control quote [] h = tt
next_fits control quote (first ∷ rest) h =
    either (first == control) _ _ (escape_fits control rest h.1)
    (either (first == quote) _ _ tt h.0)

pub next_byte : (control quote : ℕ) (at : List ℕ) (byte : ℕ) (rest : List ℕ) → AreBytes at
    → next control quote at ≡ Is byte rest → byte < 256
next_byte control quote at byte rest h e = subst IsByte e (next_fits control quote at h)

-- ---- all of them

pub spelled_bytes : (control quote : ℕ) (at bytes end : List ℕ) → AreBytes at
    → Spells control quote at bytes end → AreBytes bytes
spelled_bytes control quote at [] end h here = tt
spelled_bytes control quote at (byte ∷ bytes) end h (rest, begins, others) = (
  next_byte control quote at byte rest h begins,
  spelled_bytes control quote rest bytes end
      (bytes_end at rest (next_ends control quote at byte rest begins) h) others,
)

pub spelled_few : (control quote : ℕ) (at bytes end : List ℕ) → Spells control quote at bytes end
    → length bytes ≤ length at
spelled_few control quote at [] end here = omega arith
spelled_few control quote at (byte ∷ bytes) end (rest, begins, others) =
    omega (
      arith,
      spelled_few control quote rest bytes end others,
      next_shorter control quote at byte rest begins,
    )

-- ---- a character

ended_fits : (byte : ℕ) (end : List ℕ) (after_it : Next) (found : ℕ × List ℕ)
    → ended_by byte end after_it ≡ Ok found → byte ≡ found.0
ended_fits byte end Closes found e =
    ap (λ (r : Result (ℕ × List ℕ) ℕ). first_of r) e
  where
    first_of : Result (ℕ × List ℕ) ℕ → ℕ
    first_of (Ok pair) = pair.0
    first_of (Err fault) = 0
ended_fits byte end (Is other rest) found e = absurd (let no : ⊥ = cc in no)
ended_fits byte end (Fails fault) found e = absurd (let no : ⊥ = cc in no)

begun_fits : (control : ℕ) (first : Next) (found : ℕ × List ℕ) → IsByte first
    → begun_by control first ≡ Ok found → found.0 < 256
begun_fits control Closes found h e = absurd (let no : ⊥ = cc in no)
begun_fits control (Is byte end) found h e =
    subst (λ (n : ℕ). n < 256) (ended_fits byte end (next control 39 end) found e) h
begun_fits control (Fails fault) found h e = absurd (let no : ⊥ = cc in no)

pub character_fits : (control : ℕ) (inside : List ℕ) (byte : ℕ) (rest : List ℕ) → AreBytes inside
    → character_at control inside ≡ Ok (byte, rest) → byte < 256
unfolding character_at
character_fits control inside byte rest h e =
    begun_fits control (next control 39 inside) (byte, rest) (next_fits control 39 inside h) e

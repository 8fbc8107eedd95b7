-- The token at a place as a function: it is the one that stands there, unless that is a text.
use Rattle.std.proofs.Common.{◌≡◌, ◌≢◌, ◌<◌, ℕ, List, ◌∷◌, ◌++◌, Bool, true, false, Option, Some}
use Rattle.std.proofs.Common.{None, Result, Ok, Err, length, drop, ◌==◌, ◌&&◌, if◌then◌else◌, refl}
use Rattle.std.proofs.Common.{sym, ap, ◌∙◌, arith}
use Rattle.std.proofs.lemmas.Bool.{eqb-true, eqb-false}
use Rattle.std.proofs.lemmas.Bool.Decides.{nat_tests}
use Rattle.pawn_token.specs.declared.class.Class.TheVariants as class
use Rattle.pawn_token.specs.declared.kind.TokenKind.{TokenKind}
use Rattle.pawn_token.specs.declared.kind.TokenKind.TheVariants as kind
use Rattle.pawn_token.specs.declared.sign.Sign.{Sign}
use Rattle.pawn_token.specs.Class.{is_in, run, after, byte_at}
use Rattle.pawn_token.specs.Fault.{bad_byte}
use Rattle.pawn_token.specs.Forms.{Form, Word, Numeral, Character, IsLongest, BadForm, BadCharacter}
use Rattle.pawn_token.specs.Forms.{opening, other_if, kind_of}
use Rattle.pawn_token.specs.Literal.{character_at}
use Rattle.pawn_token.specs.Number.{prefix}
use Rattle.pawn_token.specs.Plain.{found_by, character_by, sign_by, word_found, number_found}
use Rattle.pawn_token.specs.Plain.{sign_found, quote_found, other_found, plain_at, IsSeen}
use Rattle.pawn_token.specs.Reading.{radix_at, digits_at, number_value, past_digits, sign_at}
use Rattle.pawn_token.proofs.ClassLaws.{both, one_at_front, two_at_front}
use Rattle.pawn_token.proofs.FormLaws.{word_longest, number_form, character_form, text_there}
use Rattle.pawn_token.proofs.FormLaws.{sign_told, strange_told}
use Rattle.pawn_token.proofs.OneLaws.{token_not_fault}
use Rattle.pawn_token.proofs.SortLaws.{IsMarkPlace, mark_place}

ok_one : (a b : TokenKind) → (let ok : Result TokenKind ℕ = Ok a in ok) ≡ Ok b → a ≡ b
ok_one a b e = cc

module _ (control : ℕ) (at : List ℕ) (some : 0 < length at) where
  longest_seen : (form : Form) (spelling rest : List ℕ)
      → IsLongest control false at form spelling rest → (r : Result TokenKind ℕ)
      → kind_of form rest ≡ r
      → IsSeen control at (found_by r rest)
  longest_seen form spelling rest longest (Ok found) e =
      record { form = form; spelling = spelling; longest = longest; kind_is = e }
  longest_seen form spelling rest longest (Err fault) e =
      λ found more token. absurd (token_not_fault control false at found more fault token
      (BadForm form spelling rest longest e))

  character_seen : (inside : List ℕ) → at ≡ 39 ∷ inside → (r : Result (ℕ × List ℕ) ℕ)
      → character_at control inside ≡ r
      → IsSeen control at (character_by r)
  character_seen inside opened (Ok read) e =
      let here = character_form control false at inside read.1 read.0 opened e in
      record { form = Character read.0; spelling = here.0; longest = here.1; kind_is = refl }
  character_seen inside opened (Err fault) e =
      λ found more token. absurd (token_not_fault control false at found more fault token
      (BadCharacter inside opened e))

  text_seen : (turned : Bool) (inside : List ℕ) → at ≡ opening turned ++ inside
      → IsSeen control at None
  text_seen turned inside opened = λ found more token.
      let here =
      text_there control false at token.form token.spelling more turned inside opened
      token.longest.fits in
      let packed = other_if turned false in (
        here.0,
        packed,
        ok_one found (kind.Text here.0 packed)
            (sym token.kind_is ∙ ap (λ form. kind_of form more) here.2),
      )

  sign_seen : IsMarkPlace at → (o : Option Sign) → sign_at at ≡ o → IsSeen control at (sign_by at o)
  sign_seen place (Some sign) e = sign_told control false at sign place e
  sign_seen place None e =
      λ found more token. absurd (token_not_fault control false at found more bad_byte token
      (strange_told control false at place some e))

  turned_seen : (t : Bool) → (byte_at at 0 == 33 && byte_at at 1 == 34) ≡ t
      → is_in class.NameStart (byte_at at 0) ≡ false
      → is_in class.Digit (byte_at at 0) ≡ false → byte_at at 0 ≢ 39 → byte_at at 0 ≢ 34
      → IsSeen control at (if t then None else sign_by at (sign_at at))
  turned_seen true holds start digit quote double =
      let parts = both (byte_at at 0 == 33) (byte_at at 1 == 34) holds in
      text_seen true (drop 2 at)
      (two_at_front at 33 34 (eqb-true (byte_at at 0) 33 parts.0)
      (eqb-true (byte_at at 1) 34 parts.1) (omega arith) (omega arith))
  turned_seen false fails start digit quote double =
      sign_seen (mark_place at (byte_at at 0) refl start digit quote double
      (λ one two. grind (arith, nat_tests))) (sign_at at) refl

  double_seen : (t : Bool) → (byte_at at 0 == 34) ≡ t → is_in class.NameStart (byte_at at 0) ≡ false
      → is_in class.Digit (byte_at at 0) ≡ false
      → byte_at at 0 ≢ 39 → IsSeen control at (if t then None else sign_found at)
  double_seen true holds start digit quote =
      text_seen false (drop 1 at) (one_at_front at 34 (eqb-true (byte_at at 0) 34 holds)
      (omega arith))
  double_seen false fails start digit quote =
      turned_seen (byte_at at 0 == 33 && byte_at at 1 == 34) refl start digit quote
      (eqb-false (byte_at at 0) 34 fails)

  quote_seen : (t : Bool) → (byte_at at 0 == 39) ≡ t → is_in class.NameStart (byte_at at 0) ≡ false
      → is_in class.Digit (byte_at at 0) ≡ false
      → IsSeen control at (if t then character_by (character_at control (drop 1 at))
      else if byte_at at 0 == 34 then None else sign_found at)
  quote_seen true holds start digit =
      character_seen (drop 1 at) (one_at_front at 39 (eqb-true (byte_at at 0) 39 holds)
      (omega arith)) (character_at control (drop 1 at)) refl
  quote_seen false fails start digit =
      double_seen (byte_at at 0 == 34) refl start digit (eqb-false (byte_at at 0) 39 fails)

  other_seen : (t : Bool) → is_in class.Digit (byte_at at 0) ≡ t
      → is_in class.NameStart (byte_at at 0) ≡ false
      → IsSeen control at (if t then number_found at else quote_found control at)
  other_seen true digit start =
      let radix = radix_at at in
      longest_seen (Numeral (number_value radix at)) (prefix radix ++ digits_at radix at)
      (past_digits radix at)
      (number_form control false at digit)
      (kind_of (Numeral (number_value radix at)) (past_digits radix at)) refl
  other_seen false digit start = quote_seen (byte_at at 0 == 39) refl start digit

  word_seen : (t : Bool) → is_in class.NameStart (byte_at at 0) ≡ t
      → IsSeen control at (if t then word_found at else other_found control at)
  word_seen true start =
      longest_seen (Word (run class.NameByte at)) (run class.NameByte at) (after class.NameByte at)
      (word_longest control false at start)
      (kind_of (Word (run class.NameByte at)) (after class.NameByte at)) refl
  word_seen false start = other_seen (is_in class.Digit (byte_at at 0)) refl start

-- what is found at a place
pub plain_seen : (control : ℕ) (at : List ℕ) → 0 < length at
    → IsSeen control at (plain_at control at)
unfolding plain_at
plain_seen control at some = word_seen control at some (is_in class.NameStart (byte_at at 0)) refl

-- The first two bytes tell what kind of form can stand at a place.
use Rattle.std.proofs.Common.{◌≡◌, ◌≢◌, ◌<◌, ℕ, List, [], ◌∷◌, ◌++◌, Bool, true, false, ◌&&◌, ◌==◌}
use Rattle.std.proofs.Common.{cond, length, refl, sym, ap, ◌∙◌, arith, codes}
use Rattle.std.specs.List.{list_all}
use Rattle.std.proofs.lemmas.Bool.Decides.{nat_tests}
use Rattle.pawn_token.specs.declared.class.Class.TheVariants as class
use Rattle.pawn_token.specs.declared.number.Radix.{Radix}
use Rattle.pawn_token.specs.declared.number.Radix.TheVariants.{Ten, Sixteen, Two}
use Rattle.pawn_token.specs.declared.sign.Sign.{Sign}
use Rattle.pawn_token.specs.declared.sign.Sign.TheVariants as sign
use Rattle.pawn_token.specs.Class.{is_in, byte_at}
use Rattle.pawn_token.specs.Forms.{Form, Word, Numeral, Character, Literal, Mark, Fits, opening}
use Rattle.pawn_token.specs.Number.{prefix, digit_class}
use Rattle.pawn_token.specs.Signs.{sign_spelling}
use Rattle.pawn_token.proofs.ClassLaws.{zero_is_out, digit_is_no_letter, both}

pub data Sort : Type 0 where
  OfWord : Sort
  OfNumber : Sort
  OfCharacter : Sort
  OfText : Sort
  OfMark : Sort

abbrev pub sort_of : Form → Sort
sort_of (Word word) = OfWord
sort_of (Numeral value) = OfNumber
sort_of (Character byte) = OfCharacter
sort_of (Literal bytes packed) = OfText
sort_of (Mark sign) = OfMark

unfoldable pub sort_by : ℕ → ℕ → Sort
sort_by first second =
    cond (is_in class.NameStart first) OfWord
    (cond (is_in class.Digit first) OfNumber (cond (first == 39) OfCharacter
    (cond (first == 34) OfText (cond (first == 33 && second == 34) OfText OfMark))))

-- by the bytes at the place
abbrev pub sort_at : List ℕ → Sort
sort_at at = sort_by (byte_at at 0) (byte_at at 1)

pub letter_sort : (first second : ℕ) → is_in class.NameStart first ≡ true
    → sort_by first second ≡ OfWord
unfolding sort_by
letter_sort first second h =
    ap (λ b. cond b OfWord (cond (is_in class.Digit first) OfNumber (cond (first == 39) OfCharacter
    (cond (first == 34) OfText (cond (first == 33 && second == 34) OfText OfMark))))) h

pub digit_sort : (first second : ℕ) → is_in class.Digit first ≡ true
    → sort_by first second ≡ OfNumber
unfolding sort_by
digit_sort first second h =
    ap (λ b. cond b OfWord (cond (is_in class.Digit first) OfNumber (cond (first == 39) OfCharacter
    (cond (first == 34) OfText (cond (first == 33 && second == 34) OfText OfMark)))))
    (digit_is_no_letter first h)
    ∙ ap (λ b. cond b OfNumber (cond (first == 39) OfCharacter
    (cond (first == 34) OfText (cond (first == 33 && second == 34) OfText OfMark)))) h

pub quote_sort : (second : ℕ) → sort_by 39 second ≡ OfCharacter
unfolding sort_by is_in
quote_sort second = refl

pub opening_sort : (turned : Bool) (inside : List ℕ) → sort_at (opening turned ++ inside) ≡ OfText
unfolding sort_by is_in
opening_sort false inside = refl
opening_sort true inside = refl

-- none of the other sorts
pub record IsMarkPlace (at : List ℕ) : Type 0 where
  pub no_letter : is_in class.NameStart (byte_at at 0) ≡ false
  pub no_digit : is_in class.Digit (byte_at at 0) ≡ false
  pub no_quote : byte_at at 0 ≢ 39
  pub no_text : byte_at at 0 ≢ 34
  pub no_turned_text : byte_at at 0 ≡ 33 → byte_at at 1 ≢ 34

-- the same by the first byte
pub mark_place : (at : List ℕ) (first : ℕ) → first ≡ byte_at at 0
    → is_in class.NameStart first ≡ false → is_in class.Digit first ≡ false
    → first ≢ 39 → first ≢ 34 → (byte_at at 0 ≡ 33 → byte_at at 1 ≢ 34) → IsMarkPlace at
mark_place at first is letter digit quote text turned = record {
  no_letter = ap (is_in class.NameStart) (sym is) ∙ letter;
  no_digit = ap (is_in class.Digit) (sym is) ∙ digit;
  no_quote = λ e. quote (is ∙ e);
  no_text = λ e. text (is ∙ e);
  no_turned_text = turned;
}

pub mark_sort : (first second : ℕ) → is_in class.NameStart first ≡ false
    → is_in class.Digit first ≡ false → first ≢ 39 → first ≢ 34
    → (first ≡ 33 → second ≢ 34) → sort_by first second ≡ OfMark
unfolding sort_by
mark_sort first second no_letter no_digit no_quote no_text no_turned =
    let quote : (first == 39) ≡ false = grind (arith, nat_tests) in
    let double : (first == 34) ≡ false = grind (arith, nat_tests) in
    let turned : (first == 33 && second == 34) ≡ false = grind (arith, nat_tests) in
    ap (λ b. cond b OfWord (cond (is_in class.Digit first) OfNumber (cond (first == 39) OfCharacter
    (cond (first == 34) OfText (cond (first == 33 && second == 34) OfText OfMark))))) no_letter
    ∙ ap (λ b. cond b OfNumber (cond (first == 39) OfCharacter
    (cond (first == 34) OfText (cond (first == 33 && second == 34) OfText OfMark)))) no_digit
    ∙ ap (λ b. cond b OfCharacter (cond (first == 34) OfText
    (cond (first == 33 && second == 34) OfText OfMark))) quote
    ∙ ap (λ b. cond b OfText (cond (first == 33 && second == 34) OfText OfMark)) double
    ∙ ap (λ b. cond b OfText OfMark) turned

-- a sign's first byte is none of a longer form
sign_sort : (sign : Sign) (rest : List ℕ) → (sign_spelling sign ≡ codes "!" → byte_at rest 0 ≢ 34)
    → sort_at (sign_spelling sign ++ rest) ≡ OfMark
unfolding sort_by is_in sign_spelling
sign_sort sign.ShiftUnsignedAssign rest no_text = refl
sign_sort sign.ShiftUnsigned rest no_text = refl
sign_sort sign.ShiftRightAssign rest no_text = refl
sign_sort sign.ShiftLeftAssign rest no_text = refl
sign_sort sign.Ellipsis rest no_text = refl
sign_sort sign.ShiftRight rest no_text = refl
sign_sort sign.ShiftLeft rest no_text = refl
sign_sort sign.GreaterEqual rest no_text = refl
sign_sort sign.LessEqual rest no_text = refl
sign_sort sign.Equal rest no_text = refl
sign_sort sign.NotEqual rest no_text = refl
sign_sort sign.LogicalAnd rest no_text = refl
sign_sort sign.LogicalOr rest no_text = refl
sign_sort sign.AddAssign rest no_text = refl
sign_sort sign.SubtractAssign rest no_text = refl
sign_sort sign.MultiplyAssign rest no_text = refl
sign_sort sign.DivideAssign rest no_text = refl
sign_sort sign.RemainderAssign rest no_text = refl
sign_sort sign.AndAssign rest no_text = refl
sign_sort sign.OrAssign rest no_text = refl
sign_sort sign.XorAssign rest no_text = refl
sign_sort sign.Increment rest no_text = refl
sign_sort sign.Decrement rest no_text = refl
sign_sort sign.DotDot rest no_text = refl
sign_sort sign.OpenParenthesis rest no_text = refl
sign_sort sign.CloseParenthesis rest no_text = refl
sign_sort sign.OpenBracket rest no_text = refl
sign_sort sign.CloseBracket rest no_text = refl
sign_sort sign.OpenBrace rest no_text = refl
sign_sort sign.CloseBrace rest no_text = refl
sign_sort sign.Semicolon rest no_text = refl
sign_sort sign.Comma rest no_text = refl
sign_sort sign.Dot rest no_text = refl
sign_sort sign.Colon rest no_text = refl
sign_sort sign.Question rest no_text = refl
sign_sort sign.Assign rest no_text = refl
sign_sort sign.Less rest no_text = refl
sign_sort sign.Greater rest no_text = refl
sign_sort sign.Plus rest no_text = refl
sign_sort sign.Minus rest no_text = refl
sign_sort sign.Star rest no_text = refl
sign_sort sign.Slash rest no_text = refl
sign_sort sign.Percent rest no_text = refl
sign_sort sign.Ampersand rest no_text = refl
sign_sort sign.Bar rest no_text = refl
sign_sort sign.Caret rest no_text = refl
sign_sort sign.Exclamation rest no_text =
    let other = no_text refl in
    let test : (byte_at rest 0 == 34) ≡ false = grind (arith, nat_tests) in
    ap (λ b. cond b OfText OfMark) test
sign_sort sign.Tilde rest no_text = refl

numeral_sort : (radix : Radix) (digits rest : List ℕ) → 0 < length digits
    → list_all (is_in (digit_class radix)) digits ≡ true
    → sort_at ((prefix radix ++ digits) ++ rest) ≡ OfNumber
unfolding sort_by is_in
numeral_sort Ten [] rest some all = absurd (omega (arith, some))
numeral_sort Ten (digit ∷ digits) rest some all =
    digit_sort digit (byte_at (digits ++ rest) 0)
    (both (is_in class.Digit digit) (list_all (is_in class.Digit) digits) all).0
numeral_sort Sixteen digits rest some all = refl
numeral_sort Two digits rest some all = refl

-- what fits has the sort of its place
pub begins : (control : ℕ) (setting : Bool) (at : List ℕ) (form : Form) (spelling rest : List ℕ)
    → Fits control setting at form spelling rest
    → sort_at at ≡ sort_of form
begins control setting at (Word word) [] rest fits =
    absurd (cc (zero_is_out class.NameStart, fits.spelled.1.letter))
begins control setting at (Word word) (byte ∷ spelling) rest fits =
    ap sort_at fits.parts ∙ letter_sort byte (byte_at (spelling ++ rest) 0) fits.spelled.1.letter
begins control setting at (Numeral value) spelling rest fits =
    ap sort_at (fits.parts ∙ ap (λ bytes. bytes ++ rest) fits.spelled.spelled)
    ∙ numeral_sort fits.spelled.radix fits.spelled.digits rest fits.spelled.some fits.spelled.all
begins control setting at (Character byte) spelling rest fits =
    ap sort_at fits.spelled.opened ∙ quote_sort (byte_at fits.spelled.inside 0)
begins control setting at (Literal bytes packed) spelling rest fits =
    ap sort_at fits.spelled.opened ∙ opening_sort fits.spelled.turned fits.spelled.inside
begins control setting at (Mark sign) spelling rest fits =
    ap sort_at (fits.parts ∙ ap (λ bytes. bytes ++ rest) fits.spelled.spelled)
    ∙ sign_sort sign rest (λ e. fits.spelled.no_text (fits.spelled.spelled ∙ e))

-- the forms of each sort
pub as_word : (form : Form) → sort_of form ≡ OfWord → (word : List ℕ) × (form ≡ Word word)
as_word (Word word) e = (word, refl)
as_word (Numeral value) e = absurd (cc)
as_word (Character byte) e = absurd (cc)
as_word (Literal bytes packed) e = absurd (cc)
as_word (Mark sign) e = absurd (cc)

pub as_numeral : (form : Form) → sort_of form ≡ OfNumber → (value : ℕ) × (form ≡ Numeral value)
as_numeral (Word word) e = absurd (cc)
as_numeral (Numeral value) e = (value, refl)
as_numeral (Character byte) e = absurd (cc)
as_numeral (Literal bytes packed) e = absurd (cc)
as_numeral (Mark sign) e = absurd (cc)

pub as_character : (form : Form) → sort_of form ≡ OfCharacter → (byte : ℕ) × (form ≡ Character byte)
as_character (Word word) e = absurd (cc)
as_character (Numeral value) e = absurd (cc)
as_character (Character byte) e = (byte, refl)
as_character (Literal bytes packed) e = absurd (cc)
as_character (Mark sign) e = absurd (cc)

pub as_text : (form : Form) → sort_of form ≡ OfText
    → (bytes : List ℕ) × (packed : Bool) × (form ≡ Literal bytes packed)
as_text (Word word) e = absurd (cc)
as_text (Numeral value) e = absurd (cc)
as_text (Character byte) e = absurd (cc)
as_text (Literal bytes packed) e = (bytes, packed, refl)
as_text (Mark sign) e = absurd (cc)

pub as_mark : (form : Form) → sort_of form ≡ OfMark → (sign : Sign) × (form ≡ Mark sign)
as_mark (Word word) e = absurd (cc)
as_mark (Numeral value) e = absurd (cc)
as_mark (Character byte) e = absurd (cc)
as_mark (Literal bytes packed) e = absurd (cc)
as_mark (Mark sign) e = (sign, refl)

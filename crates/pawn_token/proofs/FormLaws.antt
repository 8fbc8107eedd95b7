-- Forms: the one that is read at a place is the longest there, and it is the only longest one.
use Rattle.std.proofs.Common.{◌≡◌, ◌≢◌, ◌<◌, ◌≤◌, ℕ, List, ◌∷◌, ◌++◌, Bool, true, false, Some, None}
use Rattle.std.proofs.Common.{Result, Ok, Err, length, drop, refl, sym, ap, subst, ◌∙◌, arith}
use Rattle.std.proofs.Common.{length-append, append_assoc, codes}
use Rattle.std.specs.Borrow.{Bor}
use Rattle.pawn_token.specs.declared.class.Class.TheVariants as class
use Rattle.pawn_token.specs.declared.fault.TokenFault.{TokenFault}
use Rattle.pawn_token.specs.declared.fault.TokenFault.TheVariants as bad
use Rattle.pawn_token.specs.declared.kind.TokenKind.{TokenKind}
use Rattle.pawn_token.specs.declared.kind.TokenKind.TheVariants as kind
use Rattle.pawn_token.specs.declared.sign.Sign.{Sign}
use Rattle.pawn_token.specs.Readers.{Gives, GivesCharacter, GivesSign, GivesText, IsRead}
use Rattle.pawn_token.specs.Class.{is_in, run, after, byte_at}
use Rattle.pawn_token.specs.Fault.{bad_byte}
use Rattle.pawn_token.specs.Forms.{Form, Word, Numeral, Character, Literal, Mark, Fits, IsWord}
use Rattle.pawn_token.specs.Forms.{IsLongest, IsToken, IsFault, BadForm, BadCharacter, BadText}
use Rattle.pawn_token.specs.Forms.{Strange, opening, other_if, kind_of}
use Rattle.pawn_token.specs.Literal.{IsBody, character_at}
use Rattle.pawn_token.specs.Number.{prefix, digit_class, IsNumeral}
use Rattle.pawn_token.specs.Reading.{radix_at, digits_at, past_digits, number_value, sign_at}
use Rattle.pawn_token.specs.Signs.{sign_spelling}
use Rattle.pawn_token.proofs.ClassLaws.{run-after, run_passes, run_some, run_first, run_all}
use Rattle.pawn_token.proofs.ClassLaws.{letter_is_word}
use Rattle.pawn_token.proofs.LiteralLaws.{body_ends, character_ends, ok_parts, body_one}
use Rattle.pawn_token.proofs.NumberLaws.{radix_facts, number_read, number_longest}
use Rattle.pawn_token.proofs.SignLaws.{sign_stands, sign_longest, sign_none}
use Rattle.pawn_token.proofs.SortLaws.{Sort, OfWord, OfNumber, OfCharacter, OfText, OfMark, sort_of}
use Rattle.pawn_token.proofs.SortLaws.{sort_at, letter_sort, digit_sort, quote_sort, opening_sort}
use Rattle.pawn_token.proofs.SortLaws.{mark_sort, IsMarkPlace, begins, as_word, as_numeral}
use Rattle.pawn_token.proofs.SortLaws.{as_character, as_text, as_mark}

-- a form at a place whose sort is known
sort_there : (control : ℕ) (setting : Bool) (at : List ℕ) (form : Form) (spelling rest : List ℕ)
    (sort : Sort) → sort_at at ≡ sort
    → Fits control setting at form spelling rest → sort_of form ≡ sort
sort_there control setting at form spelling rest sort place fits =
    sym (begins control setting at form spelling rest fits) ∙ place

pub word_at : (control : ℕ) (setting : Bool) (at : List ℕ) (form : Form) (spelling rest : List ℕ)
    → sort_at at ≡ OfWord
    → Fits control setting at form spelling rest → IsWord spelling × (form ≡ Word spelling)
word_at control setting at form spelling rest place fits =
    let found = as_word form (sort_there control setting at form spelling rest OfWord place fits) in
    let here = subst (λ form. Fits control setting at form spelling rest) found.1 fits in
    (here.spelled.1, found.1 ∙ ap Word here.spelled.0)

pub numeral_at : (control : ℕ) (setting : Bool) (at : List ℕ) (form : Form) (spelling rest : List ℕ)
    → sort_at at ≡ OfNumber
    → Fits control setting at form spelling rest
    → (value : ℕ) × IsNumeral spelling value × (form ≡ Numeral value)
numeral_at control setting at form spelling rest place fits =
    let found =
    as_numeral form (sort_there control setting at form spelling rest OfNumber place fits)
    in
    let here = subst (λ form. Fits control setting at form spelling rest) found.1 fits in
    (found.0, here.spelled, found.1)

pub character_there : (control : ℕ) (setting : Bool) (at : List ℕ) (form : Form)
    (spelling rest inside : List ℕ) → at ≡ 39 ∷ inside
    → Fits control setting at form spelling rest
    → (byte : ℕ) × (character_at control inside ≡ Ok (byte, rest)) × (form ≡ Character byte)
character_there control setting at form spelling rest inside opened fits =
    let place : sort_at at ≡ OfCharacter = ap sort_at opened ∙ quote_sort (byte_at inside 0) in
    let found =
    as_character form (sort_there control setting at form spelling rest OfCharacter place
    fits) in
    let here = subst (λ form. Fits control setting at form spelling rest) found.1 fits in
    let same : inside ≡ here.spelled.inside = ap (drop 1) (sym opened ∙ here.spelled.opened) in
    (found.0, ap (character_at control) same ∙ here.spelled.read, found.1)

-- a text is opened in one way
pub opened_one : (turned other : Bool) (inside more : List ℕ)
    → opening turned ++ inside ≡ opening other ++ more → (turned ≡ other) × (inside ≡ more)
opened_one false false inside more e = (refl, ap (drop 1) e)
opened_one false true inside more e =
    let first : 34 ≡ 33 = ap (λ bytes. byte_at bytes 0) e in
    absurd (omega (arith, first))
opened_one true false inside more e =
    let first : 33 ≡ 34 = ap (λ bytes. byte_at bytes 0) e in
    absurd (omega (arith, first))
opened_one true true inside more e = (refl, ap (drop 2) e)

pub text_there : (control : ℕ) (setting : Bool) (at : List ℕ) (form : Form) (spelling rest : List ℕ)
    (turned : Bool) (inside : List ℕ)
    → at ≡ opening turned ++ inside → Fits control setting at form spelling rest
    → (bytes : List ℕ) × IsBody control 34 inside bytes rest
    × (form ≡ Literal bytes (other_if turned setting))
text_there control setting at form spelling rest turned inside opened fits =
    let place : sort_at at ≡ OfText = ap sort_at opened ∙ opening_sort turned inside in
    let found = as_text form (sort_there control setting at form spelling rest OfText place fits) in
    let here = subst (λ form. Fits control setting at form spelling rest) found.2 fits in
    let same =
    opened_one turned here.spelled.turned inside here.spelled.inside
    (sym opened ∙ here.spelled.opened) in (
      found.0,
      subst (λ bytes. IsBody control 34 bytes found.0 rest) (sym same.1) here.spelled.body,
      found.2 ∙ ap (Literal found.0)
          (here.spelled.packing ∙ ap (λ turned. other_if turned setting) (sym same.0)),
    )

pub mark_at : (control : ℕ) (setting : Bool) (at : List ℕ) (form : Form) (spelling rest : List ℕ)
    → sort_at at ≡ OfMark
    → Fits control setting at form spelling rest
    → (sign : Sign) × (spelling ≡ sign_spelling sign) × (form ≡ Mark sign)
mark_at control setting at form spelling rest place fits =
    let found = as_mark form (sort_there control setting at form spelling rest OfMark place fits) in
    let here = subst (λ form. Fits control setting at form spelling rest) found.1 fits in
    (found.0, here.spelled.spelled, found.1)

-- a name or key word is the whole run
pub word_longest : (control : ℕ) (setting : Bool) (at : List ℕ)
    → is_in class.NameStart (byte_at at 0) ≡ true
    → IsLongest control setting at (Word (run class.NameByte at)) (run class.NameByte at)
    (after class.NameByte at)
word_longest control setting at letter =
    let first = run_first class.NameByte at (letter_is_word (byte_at at 0) letter) in
    record {
      fits = record {
        parts = run-after class.NameByte at;
        spelled = (
          refl,
          record {
            letter = ap (is_in class.NameStart) first ∙ letter;
            word = run_passes class.NameByte at;
          },
        );
      };
      longest = λ other longer more fits.
          let here =
          word_at control setting at other longer more
          (letter_sort (byte_at at 0) (byte_at at 1) letter) fits in
          subst (λ bytes. length longer ≤ length (run class.NameByte bytes)) (sym fits.parts)
          (run_all class.NameByte longer more here.0.word);
    }

-- the number that is read
pub number_form : (control : ℕ) (setting : Bool) (at : List ℕ)
    → is_in class.Digit (byte_at at 0) ≡ true
    → IsLongest control setting at (Numeral (number_value (radix_at at) at))
    (prefix (radix_at at) ++ digits_at (radix_at at) at) (past_digits (radix_at at) at)
number_form control setting at digit =
    let radix = radix_at at in
    let facts = radix_facts at in
    let read = number_read at radix facts digit in
    let tail = drop (length (prefix radix)) at in
    record {
      fits = record {
        parts = read.0 ∙ ap (λ bytes. prefix radix ++ bytes) (run-after (digit_class radix) tail)
            ∙ sym (append_assoc (prefix radix) (run (digit_class radix) tail)
            (after (digit_class radix) tail));
        spelled = record {
          radix = radix;
          digits = run (digit_class radix) tail;
          spelled = refl;
          some = run_some (digit_class radix) tail read.1;
          all = run_passes (digit_class radix) tail;
          value_is = refl;
        };
      };
      longest = λ other longer more fits.
          let here =
          numeral_at control setting at other longer more
          (digit_sort (byte_at at 0) (byte_at at 1) digit) fits in
          let numeral = here.1 in
          let parts = fits.parts ∙ ap (λ bytes. bytes ++ more) numeral.spelled in
          subst (λ bytes. length bytes ≤ length (prefix radix ++ digits_at radix at))
          (sym numeral.spelled)
          (number_longest at more numeral.digits radix numeral.radix facts parts numeral.some
          numeral.all);
    }

-- spellings with one rest are as long
same_length : (at a b rest more : List ℕ) → at ≡ a ++ rest → at ≡ b ++ more → rest ≡ more
    → length b ≤ length a
same_length at a b rest more first second same =
    let counted = ap length (sym first ∙ second) in
    let tails = ap length same in
    omega (arith, counted, tails, length-append a rest, length-append b more)

pub character_form : (control : ℕ) (setting : Bool) (at inside rest : List ℕ) (byte : ℕ)
    → at ≡ 39 ∷ inside
    → character_at control inside ≡ Ok (byte, rest)
    → (spelling : List ℕ) × IsLongest control setting at (Character byte) spelling rest
character_form control setting at inside rest byte opened read =
    let end = character_ends control inside byte rest read in
    let spelling = 39 ∷ end.front in
    let parts : at ≡ spelling ++ rest = opened ∙ ap (λ bytes. 39 ∷ bytes) end.parts in (
      spelling,
      record {
        fits =
            record {
              parts = parts;
              spelled = record
                  { inside = inside; opened = opened; read = read };
            };
        longest = λ other longer more fits.
            let here = character_there control setting at other longer more inside opened fits in
            same_length at spelling longer rest more parts fits.parts
            (ok_parts byte here.0 rest more (sym read ∙ here.1)).1;
      },
    )

text_form : (control : ℕ) (setting turned : Bool) (at inside bytes rest : List ℕ)
    → at ≡ opening turned ++ inside
    → IsBody control 34 inside bytes rest
    → (spelling : List ℕ) × IsLongest control setting at
    (Literal bytes (other_if turned setting)) spelling rest
text_form control setting turned at inside bytes rest opened body =
    let end = body_ends control 34 inside bytes rest body in
    let spelling = opening turned ++ end.front in
    let parts : at ≡ spelling ++ rest =
    opened ∙ ap (λ bytes. opening turned ++ bytes) end.parts
    ∙ sym (append_assoc (opening turned) end.front rest) in (
      spelling,
      record {
        fits = record {
          parts = parts;
          spelled =
              record {
                turned = turned;
                inside = inside;
                opened = opened;
                body = body;
                packing = refl;
              };
        };
        longest = λ other longer more fits.
            let here = text_there control setting at other longer more turned inside opened fits in
            same_length at spelling longer rest more parts fits.parts
            (body_one control 34 inside bytes here.0 rest more body here.1).1;
      },
    )

place_sort : (at : List ℕ) → IsMarkPlace at → sort_at at ≡ OfMark
place_sort at place =
    mark_sort (byte_at at 0) (byte_at at 1) place.no_letter place.no_digit place.no_quote
    place.no_text place.no_turned_text

no_text_behind : (at spelling rest : List ℕ) → IsMarkPlace at → at ≡ spelling ++ rest
    → spelling ≡ codes "!" → byte_at rest 0 ≢ 34
no_text_behind at spelling rest place parts e quote =
    let whole : at ≡ 33 ∷ rest = parts ∙ ap (λ bytes. bytes ++ rest) e in
    place.no_turned_text (ap (λ bytes. byte_at bytes 0) whole)
    (ap (λ bytes. byte_at bytes 1) whole ∙ quote)

pub sign_form : (control : ℕ) (setting : Bool) (at : List ℕ) (sign : Sign) → IsMarkPlace at
    → sign_at at ≡ Some sign
    → IsLongest control setting at (Mark sign) (sign_spelling sign)
    (drop (length (sign_spelling sign)) at)
sign_form control setting at sign place found =
    let parts = sign_stands at sign found in
    record {
      fits = record {
        parts = parts;
        spelled = record {
          spelled = refl;
          no_text =
              no_text_behind at (sign_spelling sign)
              (drop (length (sign_spelling sign)) at) place parts;
        };
      };
      longest = λ other longer more fits.
          let here = mark_at control setting at other longer more (place_sort at place) fits in
          let stands = fits.parts ∙ ap (λ bytes. bytes ++ more) here.1 in
          subst (λ bytes. length bytes ≤ length (sign_spelling sign)) (sym here.1)
          (sign_longest at sign here.0 more found stands);
    }

-- what the readers answer
pub told : (control : ℕ) (setting : Bool) (at : List ℕ) (form : Form) (spelling rest : List ℕ)
    (answer : Result (TokenKind × Bor (List ℕ)) TokenFault)
    → IsLongest control setting at form spelling rest → Gives (kind_of form rest) rest answer
    → IsRead control setting at answer
told control setting at form spelling rest (Ok read) longest (token, follows) =
    subst (IsToken control setting at read.0) (sym follows)
    (record { form = form; spelling = spelling; longest = longest; kind_is = token })
told control setting at form spelling rest (Err (bad.Source fault)) longest gives =
    BadForm form spelling rest longest gives
told control setting at form spelling rest (Err bad.Memory) longest gives = tt

pub character_told : (control : ℕ) (setting : Bool) (at inside : List ℕ)
    (answer : Result (TokenKind × Bor (List ℕ)) TokenFault) → at ≡ 39 ∷ inside
    → GivesCharacter control inside answer → IsRead control setting at answer
character_told control setting at inside (Ok read) opened (byte, kind_is, here) =
    let found = character_form control setting at inside read.1.now byte opened here in
    record {
      form = Character byte;
      spelling = found.0;
      longest = found.1;
      kind_is = ap Ok (sym kind_is);
    }
character_told control setting at inside (Err (bad.Source fault)) opened gives =
    BadCharacter inside opened gives
character_told control setting at inside (Err bad.Memory) opened gives = tt

pub text_told : (control : ℕ) (setting turned : Bool) (at inside : List ℕ)
    (answer : Result (TokenKind × Bor (List ℕ)) TokenFault) → at ≡ opening turned ++ inside
    → GivesText control (other_if turned setting) inside answer → IsRead control setting at answer
text_told control setting turned at inside (Ok read) opened (bytes, kind_is, body) =
    let found = text_form control setting turned at inside bytes read.1.now opened body in
    record {
      form = Literal bytes (other_if turned setting);
      spelling = found.0;
      longest = found.1;
      kind_is = ap Ok (sym kind_is);
    }
text_told control setting turned at inside (Err (bad.Source fault)) opened gives =
    BadText turned inside opened gives
text_told control setting turned at inside (Err bad.Memory) opened gives = tt

pub sign_told : (control : ℕ) (setting : Bool) (at : List ℕ) (sign : Sign) → IsMarkPlace at
    → sign_at at ≡ Some sign
    → IsToken control setting at (kind.Sign sign) (drop (length (sign_spelling sign)) at)
sign_told control setting at sign place found =
    record {
      form = Mark sign;
      spelling = sign_spelling sign;
      longest = sign_form control setting at sign place found;
      kind_is = refl;
    }

no_opening : (at : List ℕ) → IsMarkPlace at → (turned : Bool) (inside : List ℕ)
    → at ≡ opening turned ++ inside → ⊥
no_opening at place false inside opened = place.no_text (ap (λ bytes. byte_at bytes 0) opened)
no_opening at place true inside opened =
    place.no_turned_text (ap (λ bytes. byte_at bytes 0) opened)
    (ap (λ bytes. byte_at bytes 1) opened)

pub strange_told : (control : ℕ) (setting : Bool) (at : List ℕ) → IsMarkPlace at → 0 < length at
    → sign_at at ≡ None → IsFault control setting at bad_byte
strange_told control setting at place some found =
    Strange (record {
      first = some;
      no_form = λ form spelling rest fits.
          let here = mark_at control setting at form spelling rest (place_sort at place) fits in
          sign_none at here.0 rest found (fits.parts ∙ ap (λ bytes. bytes ++ rest) here.1);
      no_character = place.no_quote;
      no_text = λ turned inside opened. no_opening at place turned inside opened;
    }) refl

pub mark_told : (control : ℕ) (setting : Bool) (at : List ℕ)
    (answer : Result (TokenKind × Bor (List ℕ)) TokenFault) → IsMarkPlace at → 0 < length at
    → GivesSign at answer → IsRead control setting at answer
mark_told control setting at (Ok read) place some (sign, kind_is, found, follows) =
    rw (kind_is, follows) (sign_told control setting at sign place found)
mark_told control setting at (Err (bad.Source fault)) place some (is, none) =
    rw is (strange_told control setting at place some none)
mark_told control setting at (Err bad.Memory) place some gives = absurd gives

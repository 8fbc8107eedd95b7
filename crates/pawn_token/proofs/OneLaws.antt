-- At a place stands at most one token or one fault, and never both.
use Rattle.std.proofs.Common.{◌≡◌, ℕ, List, ◌∷◌, ◌++◌, Bool, true, false, Result, Ok, Err, drop}
use Rattle.std.proofs.Common.{sym, ap, subst, ◌∙◌, arith}
use Rattle.pawn_token.specs.declared.kind.TokenKind.{TokenKind}
use Rattle.pawn_token.specs.Class.{byte_at}
use Rattle.pawn_token.specs.Determined.{IsDetermined}
use Rattle.pawn_token.specs.Forms.{Form, Word, Numeral, Character, Literal, Mark, Fits, IsLongest}
use Rattle.pawn_token.specs.Forms.{IsToken, IsFault, BadForm, BadCharacter, BadText, Strange}
use Rattle.pawn_token.specs.Forms.{opening, other_if, kind_of}
use Rattle.pawn_token.specs.Literal.{HasFault, character_at}
use Rattle.pawn_token.proofs.ClassLaws.{both_parts}
use Rattle.pawn_token.proofs.FormLaws.{word_at, numeral_at, character_there, text_there, mark_at}
use Rattle.pawn_token.proofs.FormLaws.{opened_one}
use Rattle.pawn_token.proofs.LiteralLaws.{read_as, ok_parts, body_one, body_not_fault, fault_one}
use Rattle.pawn_token.proofs.NumberLaws.{numeral_one}
use Rattle.pawn_token.proofs.SignLaws.{sign_one}
use Rattle.pawn_token.proofs.SortLaws.{begins}

-- two forms with one spelling at a place are one
form_one : (control : ℕ) (setting : Bool) (at : List ℕ) (form other : Form) (spelling rest : List ℕ)
    → Fits control setting at form spelling rest
    → Fits control setting at other spelling rest → form ≡ other
form_one control setting at (Word word) other spelling rest first second =
    let place = begins control setting at (Word word) spelling rest first in
    let found = word_at control setting at other spelling rest place second in
    ap Word first.spelled.0 ∙ sym found.1
form_one control setting at (Numeral value) other spelling rest first second =
    let place = begins control setting at (Numeral value) spelling rest first in
    let found = numeral_at control setting at other spelling rest place second in
    ap Numeral (numeral_one spelling value found.0 first.spelled found.1) ∙ sym found.2
form_one control setting at (Character byte) other spelling rest first second =
    let found =
    character_there control setting at other spelling rest first.spelled.inside
    first.spelled.opened second in
    ap Character (ok_parts byte found.0 rest rest (sym first.spelled.read ∙ found.1)).0
    ∙ sym found.2
form_one control setting at (Literal bytes packed) other spelling rest first second =
    let here = first.spelled in
    let found =
    text_there control setting at other spelling rest here.turned here.inside here.opened
    second in
    let same = body_one control 34 here.inside bytes found.0 rest rest here.body found.1 in
    ap (Literal bytes) here.packing
    ∙ ap (λ bytes. Literal bytes (other_if here.turned setting)) same.0 ∙ sym found.2
form_one control setting at (Mark sign) other spelling rest first second =
    let place = begins control setting at (Mark sign) spelling rest first in
    let found = mark_at control setting at other spelling rest place second in
    ap Mark (sign_one sign found.0 (sym first.spelled.spelled ∙ found.1)) ∙ sym found.2

-- two longest forms at a place are one, with one rest
longest_one : (control : ℕ) (setting : Bool) (at : List ℕ) (form other : Form)
    (a b rest more : List ℕ) → IsLongest control setting at form a rest
    → IsLongest control setting at other b more → (form ≡ other) × (rest ≡ more)
longest_one control setting at form other a b rest more first second =
    let below = first.longest other b more second.fits in
    let above = second.longest form a rest first.fits in
    let same =
    both_parts a b rest more (sym first.fits.parts ∙ second.fits.parts)
    (omega (arith, below, above)) in
    let here = subst (λ bytes. Fits control setting at other bytes more) (sym same.0) second.fits in
    let there = subst (Fits control setting at other a) (sym same.1) here in
    (form_one control setting at form other a rest first.fits there, same.1)

kind_one : (form other : Form) (rest more : List ℕ) → form ≡ other → rest ≡ more
    → kind_of form rest ≡ kind_of other more
kind_one form other rest more e f = ap (λ form. kind_of form rest) e ∙ ap (kind_of other) f

abbrev as_ok : TokenKind → Result TokenKind ℕ
as_ok kind = Ok kind

abbrev as_err : ℕ → Result TokenKind ℕ
as_err fault = Err fault

abbrev as_bad : ℕ → Result (ℕ × List ℕ) ℕ
as_bad fault = Err fault

ok_one : (a b : TokenKind) → as_ok a ≡ as_ok b → a ≡ b
ok_one a b e = cc

-- at most one token, with one rest
pub token_one : (control : ℕ) (setting : Bool) (at : List ℕ) (a b : TokenKind) (rest more : List ℕ)
    → IsToken control setting at a rest
    → IsToken control setting at b more → (a ≡ b) × (rest ≡ more)
token_one control setting at a b rest more first second =
    let same =
    longest_one control setting at first.form second.form first.spelling second.spelling
    rest more first.longest second.longest in
    let kinds : as_ok a ≡ as_ok b =
    sym first.kind_is ∙ kind_one first.form second.form rest more same.0 same.1
    ∙ second.kind_is in
    (ok_one a b kinds, same.1)

no_character_form : (control : ℕ) (setting : Bool) (at inside : List ℕ) (fault : ℕ) (form : Form)
    (spelling rest : List ℕ) → at ≡ 39 ∷ inside
    → character_at control inside ≡ Err fault → Fits control setting at form spelling rest → ⊥
no_character_form control setting at inside fault form spelling rest opened fails fits =
    let found = character_there control setting at form spelling rest inside opened fits in
    let wrong : read_as found.0 rest ≡ Err fault = sym found.1 ∙ fails in
    cc

no_text_form : (control : ℕ) (setting turned : Bool) (at inside : List ℕ) (fault : ℕ) (form : Form)
    (spelling rest : List ℕ) → at ≡ opening turned ++ inside
    → HasFault control 34 inside fault → Fits control setting at form spelling rest → ⊥
no_text_form control setting turned at inside fault form spelling rest opened fails fits =
    let found = text_there control setting at form spelling rest turned inside opened fits in
    body_not_fault control 34 inside found.0 rest fault found.1 fails

-- never both
pub token_not_fault : (control : ℕ) (setting : Bool) (at : List ℕ) (kind : TokenKind)
    (rest : List ℕ) (fault : ℕ) → IsToken control setting at kind rest
    → IsFault control setting at fault → ⊥
token_not_fault control setting at kind rest fault token (BadForm form spelling more longest fails)
    =
    let same =
    longest_one control setting at token.form form token.spelling spelling rest more
    token.longest longest in
    let wrong : as_ok kind ≡ Err fault =
    sym token.kind_is ∙ kind_one token.form form rest more same.0 same.1 ∙ fails in
    cc
token_not_fault control setting at kind rest fault token (BadCharacter inside opened fails) =
    no_character_form control setting at inside fault token.form token.spelling rest opened fails
    token.longest.fits
token_not_fault control setting at kind rest fault token (BadText turned inside opened fails) =
    no_text_form control setting turned at inside fault token.form token.spelling rest opened fails
    token.longest.fits
token_not_fault control setting at kind rest fault token (Strange strange is) =
    strange.no_form token.form token.spelling rest token.longest.fits

quotes_differ : (at inside : List ℕ) (turned : Bool) (more : List ℕ) → at ≡ 39 ∷ inside
    → at ≡ opening turned ++ more → ⊥
quotes_differ at inside false more first second =
    let wrong : 39 ≡ 34 = ap (λ bytes. byte_at bytes 0) (sym first ∙ second) in
    omega (arith, wrong)
quotes_differ at inside true more first second =
    let wrong : 39 ≡ 33 = ap (λ bytes. byte_at bytes 0) (sym first ∙ second) in
    omega (arith, wrong)

err_one : (a b : ℕ) → as_err a ≡ as_err b → a ≡ b
err_one a b e = cc

bad_one : (a b : ℕ) → as_bad a ≡ as_bad b → a ≡ b
bad_one a b e = cc

-- at most one fault
pub place_fault_one : (control : ℕ) (setting : Bool) (at : List ℕ) (a b : ℕ)
    → IsFault control setting at a → IsFault control setting at b → a ≡ b
place_fault_one control setting at a b (BadForm form spelling rest longest fails)
    (BadForm other longer more second wrong) =
    let same = longest_one control setting at form other spelling longer rest more longest second in
    err_one a b (sym fails ∙ kind_one form other rest more same.0 same.1 ∙ wrong)
place_fault_one control setting at a b (BadForm form spelling rest longest fails)
    (BadCharacter inside opened wrong) =
    absurd (no_character_form control setting at inside b form spelling rest opened wrong
    longest.fits)
place_fault_one control setting at a b (BadForm form spelling rest longest fails)
    (BadText turned inside opened wrong) =
    absurd (no_text_form control setting turned at inside b form spelling rest opened wrong
    longest.fits)
place_fault_one control setting at a b (BadForm form spelling rest longest fails)
    (Strange strange is) =
    absurd (strange.no_form form spelling rest longest.fits)
place_fault_one control setting at a b (BadCharacter inside opened fails)
    (BadForm form spelling rest longest wrong) =
    absurd (no_character_form control setting at inside a form spelling rest opened fails
    longest.fits)
place_fault_one control setting at a b (BadCharacter inside opened fails)
    (BadCharacter other also wrong) =
    bad_one a b (sym fails ∙ ap (character_at control) (ap (drop 1) (sym opened ∙ also)) ∙ wrong)
place_fault_one control setting at a b (BadCharacter inside opened fails)
    (BadText turned other also wrong) =
    absurd (quotes_differ at inside turned other opened also)
place_fault_one control setting at a b (BadCharacter inside opened fails) (Strange strange is) =
    absurd (strange.no_character (ap (λ bytes. byte_at bytes 0) opened))
place_fault_one control setting at a b (BadText turned inside opened fails)
    (BadForm form spelling rest longest wrong) =
    absurd (no_text_form control setting turned at inside a form spelling rest opened fails
    longest.fits)
place_fault_one control setting at a b (BadText turned inside opened fails)
    (BadCharacter other also wrong) =
    absurd (quotes_differ at other turned inside also opened)
place_fault_one control setting at a b (BadText turned inside opened fails)
    (BadText otherwise other also wrong) =
    let same = opened_one turned otherwise inside other (sym opened ∙ also) in
    fault_one control 34 inside a b fails
    (subst (λ bytes. HasFault control 34 bytes b) (sym same.1) wrong)
place_fault_one control setting at a b (BadText turned inside opened fails) (Strange strange is) =
    absurd (strange.no_text turned inside opened)
place_fault_one control setting at a b (Strange strange is)
    (BadForm form spelling rest longest wrong) =
    absurd (strange.no_form form spelling rest longest.fits)
place_fault_one control setting at a b (Strange strange is) (BadCharacter inside opened wrong) =
    absurd (strange.no_character (ap (λ bytes. byte_at bytes 0) opened))
place_fault_one control setting at a b (Strange strange is) (BadText turned inside opened wrong) =
    absurd (strange.no_text turned inside opened)
place_fault_one control setting at a b (Strange strange is) (Strange other also) = is ∙ sym also

pub is_determined : (control : ℕ) (packed : Bool) → IsDetermined control packed
is_determined control packed = record {
  token = token_one control packed;
  fault = place_fault_one control packed;
  never_both = token_not_fault control packed;
}

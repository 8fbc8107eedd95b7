-- What the tokens of lines hold is small.
use Rattle.std.proofs.Common.{◌≡◌, ◌<◌, ◌≤◌, ◌^◌, ℕ, ℤ, List, [], ◌∷◌, Bool, true, false, Option}
use Rattle.std.proofs.Common.{Some, None, Result, Ok, Err, cond, length, refl, sym, ap, subst}
use Rattle.std.proofs.Common.{nat_lt, nat_le, if◌then◌else◌, arith, length-append}
use Rattle.std.specs.Int.{cast_signed, w32}
use Rattle.std.specs.List.{prefix_len}
use Rattle.std.proofs.lemmas.Bool.{leb-true}
use Rattle.std.specs.Prelude.{All}
use Rattle.std.proofs.lemmas.List.Elements.{All-head, All-tail}
use Rattle.std.proofs.lemmas.List.Sums.{sum_by-cons}
use Rattle.pawn_cells.specs.Cells.{IsCell}
use Rattle.pawn_pre.specs.declared.line.Line.{Line}
use Rattle.pawn_pre.specs.Bounds.{bytes_of}
use Rattle.pawn_token.specs.declared.class.Class.TheVariants as class
use Rattle.pawn_token.specs.declared.key.Key.{Key}
use Rattle.pawn_token.specs.declared.kind.TokenKind.{TokenKind}
use Rattle.pawn_token.specs.declared.kind.TokenKind.TheVariants as kind
use Rattle.pawn_token.specs.Class.{is_in}
use Rattle.pawn_token.specs.Fault.{bad_number, name_too_long, number_too_wide}
use Rattle.pawn_token.specs.Forms.{Form, Word, Numeral, Character, Literal, Mark, Fits, IsToken}
use Rattle.pawn_token.specs.Forms.{opening, word_kind, number_kind, kind_of}
use Rattle.pawn_token.specs.Keys.{key_of}
use Rattle.pawn_token.specs.Kinds.{past_blanks}
use Rattle.pawn_token.specs.Number.{is_glued, cell_of}
use Rattle.pawn_token.proofs.ForCallers.{token_shorter, past_blanks-le}
use Rattle.pawn_token.proofs.LiteralLaws.{end_drop}
use Rattle.pawn_lex.specs.declared.token.Token.{Token}
use Rattle.pawn_lex.specs.Lines.{Leads, AreTokens}
use Rattle.types_laws.specs.Objects.{Each}
use Rattle.types_laws.specs.Written.{AreBytes}
use Rattle.pawn_cells.proofs.CellLaws.{small_cell, cell_of_cell}
use Rattle.types_laws.proofs.Facts.{all_each, each_append}
use Rattle.types_laws.proofs.ArrayValues.{each_at}
use Rattle.types_laws.specs.WrittenTrees.{IsSmallKind}
use Rattle.types_laws.specs.SmallTokens.{TokensAreSmall, AreByteLines}
use Rattle.types_laws.proofs.LiteralBytes.{bytes_left, bytes_right, bytes_end, spelled_bytes}
use Rattle.types_laws.proofs.LiteralBytes.{spelled_few, character_fits}

-- ---- kinds

-- what is answered as a token is small
abbrev IsSmallAnswer : Result TokenKind ℕ → Type 0
IsSmallAnswer (Ok it) = IsSmallKind it
IsSmallAnswer (Err fault) = Unit {0}

name_small : (word : List ℕ) (b : Bool) → nat_le (length word) 31 ≡ b → AreBytes word
    → IsSmallAnswer (if b then Ok (kind.Name word) else Err name_too_long)
name_small word true e h =
    let few : length word ≤ 31 = leb-true (length word) 31 e in
    record { bytes_are = h; short = omega (arith, few) }
name_small word false e h = tt

word_small : (word : List ℕ) (key : Option Key) → AreBytes word → IsSmallAnswer (word_kind word key)
word_small word (Some key) h = tt
word_small word None h = name_small word (nat_le (length word) 31) refl h

-- a cell, where there is one
abbrev IsCellAnswer : Result ℤ ℕ → Type 0
IsCellAnswer (Ok v) = IsCell v
IsCellAnswer (Err fault) = Unit {0}

cell_or : (b : Bool) (x y : Result ℤ ℕ) → IsCellAnswer x → IsCellAnswer y
    → IsCellAnswer (cond b x y)
cell_or true x y h k = h
cell_or false x y h k = k

cell_fits : (value : ℕ) (rest : List ℕ) → IsCellAnswer (cell_of value rest)
unfolding cell_of
cell_fits value rest =
    cell_or (is_glued rest) (Err bad_number) _ tt
    (cell_or (nat_lt value (2 ^ 32)) (Ok (cast_signed w32 value)) (Err number_too_wide)
    (cell_of_cell value) tt)

number_small : (it : Result ℤ ℕ) → IsCellAnswer it → IsSmallAnswer (number_kind it)
number_small (Ok v) h = h
number_small (Err fault) h = tt

module _ (control : ℕ) (setting : Bool) (at : List ℕ) (bytes_are : AreBytes at)
    (short : length at < 2 ^ 30) where
  form_small : (form : Form) (spelling rest : List ℕ) → Fits control setting at form spelling rest
      → IsSmallAnswer (kind_of form rest)
  form_small (Word word) spelling rest fits =
      word_small word (key_of word)
      (subst (λ (l : List ℕ). AreBytes l) (sym fits.spelled.0)
      (bytes_left spelling rest (subst (λ (l : List ℕ). AreBytes l) fits.parts bytes_are)))
  form_small (Numeral value) spelling rest fits =
      number_small (cell_of value rest) (cell_fits value rest)
  form_small (Character byte) spelling rest fits =
      let here = fits.spelled in
      let opened : AreBytes (39 ∷ here.inside) =
      subst (λ (l : List ℕ). AreBytes l) here.opened bytes_are in
      small_cell byte
      (omega (arith, character_fits control here.inside byte rest opened.1 here.read))
  form_small (Literal bytes packed) spelling rest fits =
      let here = fits.spelled in
      let inside : AreBytes here.inside =
      bytes_right (opening here.turned) here.inside
      (subst (λ (l : List ℕ). AreBytes l) here.opened bytes_are) in
      record {
        bytes_are = spelled_bytes control 34 here.inside bytes here.body.end inside
            here.body.spelled;
        short = omega (
          arith,
          short,
          spelled_few control 34 here.inside bytes here.body.end here.body.spelled,
          ap length here.opened,
          length-append (opening here.turned) here.inside,
        );
      }
  form_small (Mark sign) spelling rest fits = tt

  token_small : (it : TokenKind) (rest : List ℕ) → IsToken control setting at it rest
      → IsSmallKind it × AreBytes rest
  token_small it rest token = (
    subst IsSmallAnswer token.kind_is
        (form_small token.form token.spelling rest token.longest.fits),
    bytes_right token.spelling rest
        (subst (λ (l : List ℕ). AreBytes l) token.longest.fits.parts bytes_are),
  )

-- ---- lines

abbrev IsSmallToken : Token → Type 0
IsSmallToken token = IsSmallKind token.kind

leads_small : (line : Line) (first : Bool) (at : List ℕ) (ts : List Token) (end : List ℕ)
    → AreBytes at → length at < 2 ^ 30 → Leads line first at ts end → Each IsSmallToken ts
leads_small line first at [] end h short here = tt
leads_small line first at (token ∷ ts) end h short (rest, next, others) =
    let from : AreBytes (past_blanks at) =
    bytes_end at (past_blanks at) (end_drop (prefix_len (is_in class.Blank) at) at) h in
    let below : length (past_blanks at) < 2 ^ 30 = omega (arith, short, past_blanks-le at) in
    let shorter = token_shorter line.ctrl line.packed (past_blanks at) next.kind rest next.here in
    let small = token_small line.ctrl line.packed (past_blanks at) from below next.kind rest
    next.here in (
      subst IsSmallKind (ap (λ (t : Token). t.kind) (sym next.token_is)) small.0,
      leads_small line false rest ts end small.1 (omega (arith, below, shorter)) others,
    )

abbrev HaveBytes : List Line → Type 0
HaveBytes lines = Each (λ (line : Line). AreBytes line.bytes) lines

have_bytes : (lines : List Line) → AreByteLines lines → HaveBytes lines
have_bytes [] h = tt
have_bytes (line ∷ lines) h = (
  all_each (λ byte. byte < 256) line.bytes
      (All-head (λ (l : Line). All (λ byte. byte < 256) l.bytes) line lines h),
  have_bytes lines (All-tail (λ (l : Line). All (λ byte. byte < 256) l.bytes) line lines h),
)

lines_small : (lines : List Line) (ts : List Token) → HaveBytes lines → bytes_of lines < 2 ^ 30
    → AreTokens lines ts → Each IsSmallToken ts
lines_small [] ts h short none = subst (λ (l : List Token). Each IsSmallToken l) (sym none) tt
lines_small (line ∷ lines) ts h short (here, more, is, tokenised, others) =
    let counted = sum_by-cons (λ (l : Line). length l.bytes) line lines in
    subst (λ (l : List Token). Each IsSmallToken l) (sym is)
    (each_append IsSmallToken here more
    (leads_small line true line.bytes here tokenised.end h.0 (omega (arith, short, counted))
    tokenised.leads)
    (lines_small lines more h.1 (omega (arith, short, counted)) others))

pub tokens_small : TokensAreSmall
tokens_small lines ts h short are = record {
  small = λ i token there.
      each_at IsSmallToken ts i token (lines_small lines ts (have_bytes lines h) short are) there;
}

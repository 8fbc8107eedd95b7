-- Names, key words and signs take the bytes that they are spelled by.
use Rattle.std.proofs.Common.{◌≡◌, ◌≤◌, ◌+◌, ℕ, ℤ, List, [], ◌∷◌, Bool, true, false, Option, Some}
use Rattle.std.proofs.Common.{None, Result, Ok, Err, cond, length, refl, ap, subst, nat_le}
use Rattle.std.proofs.Common.{if◌then◌else◌, arith, length-append}
use Rattle.std.specs.Prelude.{find, sum_by}
use Rattle.std.specs.Str.{bytes_eq}
use Rattle.std.proofs.lemmas.List.Sums.{sum_by-append, sum_by-cons}
use Rattle.std.proofs.lemmas.Slice.Eq.{bytes_eq-Decides}
use Rattle.pawn_pre.specs.declared.line.Line.{Line}
use Rattle.pawn_token.specs.declared.key.Key.{Key}
use Rattle.pawn_token.specs.declared.kind.TokenKind.{TokenKind}
use Rattle.pawn_token.specs.declared.kind.TokenKind.TheVariants as kind
use Rattle.pawn_token.specs.Fault.{name_too_long}
use Rattle.pawn_token.specs.Forms.{Form, Word, Numeral, Character, Literal, Mark, Fits, IsToken}
use Rattle.pawn_token.specs.Forms.{word_kind, number_kind, kind_of}
use Rattle.pawn_token.specs.Keys.{keys, key_of, key_spelling}
use Rattle.pawn_token.specs.Kinds.{past_blanks}
use Rattle.pawn_token.specs.Number.{cell_of}
use Rattle.pawn_token.proofs.ForCallers.{past_blanks-le}
use Rattle.pawn_lex.specs.declared.token.Token.{Token}
use Rattle.pawn_lex.specs.Lines.{Leads}
use Rattle.types_laws.specs.TokenSizes.{token_size, TokensAreWithinBytes}

-- ---- a key word

key_by : (word : List ℕ) (first : Key) (more : List Key) (it : Key) (b : Bool)
    → bytes_eq (key_spelling first) word ≡ b
    → cond b (Some first) (find (λ key. bytes_eq (key_spelling key) word) more) ≡ Some it
    → (find (λ key. bytes_eq (key_spelling key) word) more ≡ Some it → key_spelling it ≡ word)
    → key_spelling it ≡ word
key_by word first more it true s e k =
    let same : first ≡ it = cc in
    subst (λ (key : Key). key_spelling key ≡ word) same
    ((bytes_eq-Decides (key_spelling first) word).0 s)
key_by word first more it false s e k = k e

key_among : (word : List ℕ) (all : List Key) (it : Key)
    → find (λ key. bytes_eq (key_spelling key) word) all ≡ Some it → key_spelling it ≡ word
key_among word [] it e = absurd (let no : ⊥ = cc in no)
key_among word (first ∷ more) it e =
    key_by word first more it (bytes_eq (key_spelling first) word) refl e (key_among word more it)

key_spelled : (word : List ℕ) (it : Key) → key_of word ≡ Some it → key_spelling it ≡ word
unfolding key_of
key_spelled word it e = key_among word keys it e

-- ---- kinds

-- what is answered takes at most so many bytes
abbrev IsWithin : ℕ → Result TokenKind ℕ → Type 0
IsWithin n (Ok it) = token_size it ≤ n
IsWithin n (Err fault) = Unit {0}

name_within : (word : List ℕ) (b : Bool)
    → IsWithin (length word) (if b then Ok (kind.Name word) else Err name_too_long)
name_within word true = omega arith
name_within word false = tt

word_within : (word : List ℕ) (key : Option Key) → key_of word ≡ key
    → IsWithin (length word) (word_kind word key)
word_within word (Some key) e = omega (arith, ap length (key_spelled word key e))
word_within word None e = name_within word (nat_le (length word) 31)

number_within : (n : ℕ) (it : Result ℤ ℕ) → IsWithin n (number_kind it)
number_within n (Ok v) = omega arith
number_within n (Err fault) = tt

form_within : (control : ℕ) (setting : Bool) (at : List ℕ) (form : Form) (spelling rest : List ℕ)
    → Fits control setting at form spelling rest
    → IsWithin (length spelling) (kind_of form rest)
form_within control setting at (Word word) spelling rest fits =
    subst (λ (n : ℕ). IsWithin n (word_kind word (key_of word))) (ap length fits.spelled.0)
    (word_within word (key_of word) refl)
form_within control setting at (Numeral value) spelling rest fits =
    number_within (length spelling) (cell_of value rest)
form_within control setting at (Character byte) spelling rest fits = omega arith
form_within control setting at (Literal bytes packed) spelling rest fits = omega arith
form_within control setting at (Mark sign) spelling rest fits =
    omega (arith, ap length fits.spelled.spelled)

token_within : (control : ℕ) (setting : Bool) (at : List ℕ) (it : TokenKind) (rest : List ℕ)
    → IsToken control setting at it rest → token_size it + length rest ≤ length at
token_within control setting at it rest token =
    let within : token_size it ≤ length token.spelling =
    subst (IsWithin (length token.spelling)) token.kind_is
    (form_within control setting at token.form token.spelling rest token.longest.fits) in
    omega (
      arith,
      within,
      ap length token.longest.fits.parts,
      length-append token.spelling rest,
    )

-- ---- lines

abbrev size_of : Token → ℕ
size_of token = token_size token.kind

leads_within : (line : Line) (first : Bool) (at : List ℕ) (ts : List Token) (end : List ℕ)
    → Leads line first at ts end → sum_by size_of ts + length end ≤ length at
leads_within line first at [] end here = omega (arith, ap length here)
leads_within line first at (token ∷ ts) end (rest, next, others) =
    omega (
      arith,
      token_within line.ctrl line.packed (past_blanks at) next.kind rest next.here,
      past_blanks-le at,
      leads_within line false rest ts end others,
      ap (λ (t : Token). token_size t.kind) next.token_is,
      sum_by-cons size_of token ts,
    )

pub tokens_within : TokensAreWithinBytes
tokens_within [] ts none = omega (arith, ap (λ (l : List Token). sum_by size_of l) none)
tokens_within (line ∷ lines) ts (here, more, is, tokenised, others) =
    omega (
      arith,
      leads_within line true line.bytes here tokenised.end tokenised.leads,
      tokens_within lines more others,
      sum_by-append size_of here more,
      sum_by-cons (λ (l : Line). length l.bytes) line lines,
      ap (λ (l : List Token). sum_by size_of l) is,
    )

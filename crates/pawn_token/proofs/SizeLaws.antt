-- What a token takes of a text: a byte at least, and as many as its name has.
use Rattle.std.proofs.Common.{◌≡◌, ◌<◌, ◌≤◌, ◌+◌, ℕ, zero, suc, pos, ℤ, List, [], ◌∷◌, ◌++◌, ◌-◌}
use Rattle.std.proofs.Common.{drop, Bool, true, false, Option, Some, None, Result, Ok, Err, length}
use Rattle.std.proofs.Common.{get_or, refl, sym, ap, subst, ◌∙◌, nat_le, cond, arith, length-append}
use Rattle.std.specs.List.{prefix_len}
use Rattle.std.proofs.lemmas.Bool.{leb-true}
use Rattle.std.proofs.lemmas.List.Sums.{AllPass-from_list_all}
use Rattle.pawn_token.specs.declared.class.Class.TheVariants as class
use Rattle.pawn_token.specs.declared.key.Key.{Key}
use Rattle.pawn_token.specs.declared.kind.TokenKind.{TokenKind}
use Rattle.pawn_token.specs.declared.kind.TokenKind.TheVariants as kind
use Rattle.pawn_token.specs.Class.{is_in}
use Rattle.pawn_token.specs.Fault.{name_too_long}
use Rattle.pawn_token.specs.Forms.{Form, Word, Numeral, Character, Literal, Mark, Fits, IsWord}
use Rattle.pawn_token.specs.Forms.{IsToken, IsFault, BadForm, BadCharacter, BadText, Strange}
use Rattle.pawn_token.specs.Forms.{opening, kind_of, word_kind, number_kind}
use Rattle.pawn_token.specs.Keys.{key_of}
use Rattle.pawn_token.specs.Kinds.{past_blanks}
use Rattle.pawn_token.specs.Number.{prefix, cell_of}
use Rattle.pawn_token.specs.Sizes.{IsNameOrOther, name_size}
use Rattle.pawn_token.proofs.ClassLaws.{first_is, zero_is_out}
use Rattle.pawn_token.proofs.LiteralLaws.{end_drop, end_le, character_ends, body_ends}
use Rattle.pawn_token.proofs.SignLaws.{sign_some}

opening_some : (turned : Bool) → 0 < length (opening turned)
opening_some false = omega arith
opening_some true = omega arith

-- what fits takes a byte at least
some_fits : (control : ℕ) (setting : Bool) (at : List ℕ) (form : Form) (spelling rest : List ℕ)
    → Fits control setting at form spelling rest
    → length rest < length at
some_fits control setting at (Word word) spelling rest fits =
    let some = first_is class.NameStart spelling fits.spelled.1.letter in
    let counted = ap length fits.parts in
    omega (arith, some, counted, length-append spelling rest)
some_fits control setting at (Numeral value) spelling rest fits =
    let counted = ap length fits.parts in
    let spelled = ap length fits.spelled.spelled in
    omega (
      arith,
      fits.spelled.some,
      counted,
      spelled,
      length-append spelling rest,
      length-append (prefix fits.spelled.radix) fits.spelled.digits,
    )
some_fits control setting at (Character byte) spelling rest fits =
    let here = fits.spelled in
    let within = end_le here.inside rest (character_ends control here.inside byte rest here.read) in
    let counted = ap length here.opened in
    omega (arith, within, counted)
some_fits control setting at (Literal bytes packed) spelling rest fits =
    let here = fits.spelled in
    let within = end_le here.inside rest (body_ends control 34 here.inside bytes rest here.body) in
    let counted = ap length here.opened in
    omega (
      arith,
      within,
      counted,
      length-append (opening here.turned) here.inside,
      opening_some here.turned,
    )
some_fits control setting at (Mark sign) spelling rest fits =
    let counted = ap length fits.parts in
    let spelled = ap length fits.spelled.spelled in
    omega (arith, counted, spelled, length-append spelling rest, sign_some sign)

pub token_shorter : (control : ℕ) (setting : Bool) (at : List ℕ) (kind : TokenKind) (rest : List ℕ)
    → IsToken control setting at kind rest
    → length rest < length at
token_shorter control setting at kind rest token =
    some_fits control setting at token.form token.spelling rest token.longest.fits

pub fault_some : (control : ℕ) (setting : Bool) (at : List ℕ) (fault : ℕ)
    → IsFault control setting at fault → 0 < length at
fault_some control setting at fault (BadForm form spelling rest longest fails) =
    let shorter = some_fits control setting at form spelling rest longest.fits in
    omega (arith, shorter)
fault_some control setting at fault (BadCharacter inside opened fails) =
    let counted = ap length opened in
    omega (arith, counted)
fault_some control setting at fault (BadText turned inside opened fails) =
    let counted = ap length opened in
    omega (arith, counted, length-append (opening turned) inside, opening_some turned)
fault_some control setting at fault (Strange strange is) = strange.first

-- a token's kind, by what it takes of these bytes
Takes : ℕ → TokenKind → Type 0
Takes n kind = IsNameOrOther kind × (name_size kind ≤ n)

nonzero : (byte : ℕ) → is_in class.NameByte byte ≡ true → 0 < byte
nonzero zero h = absurd (cc (zero_is_out class.NameByte))
nonzero (suc byte) h = omega arith

ok_takes : (n : ℕ) (a b : TokenKind) → (let ok : Result TokenKind ℕ = Ok a in ok) ≡ Ok b → Takes n a
    → Takes n b
ok_takes n a b e takes = subst (Takes n) (same e) takes
  where
    same : (let ok : Result TokenKind ℕ = Ok a in ok) ≡ Ok b → a ≡ b
    same h = cc

err_takes : (n fault : ℕ) (b : TokenKind) → (let err : Result TokenKind ℕ = Err fault in err) ≡ Ok b
    → Takes n b
err_takes n fault b e = absurd (never e)
  where
    never : (let err : Result TokenKind ℕ = Err fault in err) ≡ Ok b → ⊥
    never h = cc

name_takes : (word : List ℕ) (t : Bool) → nat_le (length word) 31 ≡ t → IsWord word
    → (found : TokenKind)
    → cond t (Ok (kind.Name word)) (Err name_too_long) ≡ Ok found → Takes (length word) found
unfolding Takes
name_takes word true short is found e =
    ok_takes (length word) (kind.Name word) found e (
      record {
        some = first_is class.NameStart word is.letter;
        short = leb-true (length word) 31 short;
        nonzero =
            λ k d below. nonzero (get_or word k d)
            (AllPass-from_list_all (is_in class.NameByte) word is.word k d below);
      },
      omega arith,
    )
name_takes word false long is found e = err_takes (length word) name_too_long found e

word_takes : (word : List ℕ) (key : Option Key) → IsWord word → (found : TokenKind)
    → word_kind word key ≡ Ok found → Takes (length word) found
unfolding Takes
word_takes word (Some key) is found e =
    ok_takes (length word) (kind.Key key) found e (tt, omega arith)
word_takes word None is found e = name_takes word (nat_le (length word) 31) refl is found e

number_takes : (n : ℕ) (cell : Result ℤ ℕ) (found : TokenKind) → number_kind cell ≡ Ok found
    → Takes n found
unfolding Takes
number_takes n (Ok cell) found e = ok_takes n (kind.Number cell) found e (tt, omega arith)
number_takes n (Err fault) found e = err_takes n fault found e

form_takes : (control : ℕ) (setting : Bool) (at : List ℕ) (form : Form) (spelling rest : List ℕ)
    → Fits control setting at form spelling rest
    → (found : TokenKind) → kind_of form rest ≡ Ok found → Takes (length spelling) found
unfolding Takes
form_takes control setting at (Word word) spelling rest fits found e =
    let same = fits.spelled.0 in
    subst (λ bytes. Takes (length bytes) found) same
    (word_takes word (key_of word) (subst IsWord (sym same) fits.spelled.1) found e)
form_takes control setting at (Numeral value) spelling rest fits found e =
    number_takes (length spelling) (cell_of value rest) found e
form_takes control setting at (Character byte) spelling rest fits found e =
    ok_takes (length spelling) (kind.Number (pos byte)) found e (tt, omega arith)
form_takes control setting at (Literal bytes packed) spelling rest fits found e =
    ok_takes (length spelling) (kind.Text bytes packed) found e (tt, omega arith)
form_takes control setting at (Mark sign) spelling rest fits found e =
    ok_takes (length spelling) (kind.Sign sign) found e (tt, omega arith)

-- a token is a good name or none, and its name stands within the bytes that it takes
pub token_takes : (control : ℕ) (setting : Bool) (at : List ℕ) (kind : TokenKind) (rest : List ℕ)
    → IsToken control setting at kind rest
    → IsNameOrOther kind × (name_size kind + length rest ≤ length at)
unfolding Takes
token_takes control setting at kind rest token =
    let takes =
    form_takes control setting at token.form token.spelling rest token.longest.fits kind
    token.kind_is in
    let counted = ap length token.longest.fits.parts in
    (takes.0, omega (arith, takes.1, counted, length-append token.spelling rest))

pub past_blanks-le : (at : List ℕ) → length (past_blanks at) ≤ length at
past_blanks-le at = end_le at (past_blanks at) (end_drop _ at)

-- what follows a token is what is left of the bytes
pub token_rest : (control : ℕ) (setting : Bool) (at : List ℕ) (kind : TokenKind) (rest : List ℕ)
    → IsToken control setting at kind rest
    → drop (length at - length rest) at ≡ rest
token_rest control setting at kind rest token =
    let parts = token.longest.fits.parts in
    let counted = ap length parts in
    let size : length at - length rest ≡ length token.spelling =
    omega (arith, counted, length-append token.spelling rest) in
    ap (λ n. drop n at) size ∙ ap (drop (length token.spelling)) parts
    ∙ drop-append token.spelling rest
  where
    drop-append : (front more : List ℕ) → drop (length front) (front ++ more) ≡ more
    drop-append [] more = refl
    drop-append (byte ∷ front) more = drop-append front more

-- a blank is passed by, and another byte isn't
pub blank_skipped : (byte : ℕ) (bytes : List ℕ) → is_in class.Blank byte ≡ true
    → past_blanks (byte ∷ bytes) ≡ past_blanks bytes
blank_skipped byte bytes h =
    let n = prefix_len (is_in class.Blank) bytes in
    let one : 1 + n ≡ suc n = omega arith in
    ap (λ t. drop (cond t (1 + n) 0) (byte ∷ bytes)) h ∙ ap (λ m. drop m (byte ∷ bytes)) one

pub blank_stays : (byte : ℕ) (bytes : List ℕ) → is_in class.Blank byte ≡ false
    → past_blanks (byte ∷ bytes) ≡ byte ∷ bytes
blank_stays byte bytes h =
    ap (λ t. drop (cond t (1 + prefix_len (is_in class.Blank) bytes) 0) (byte ∷ bytes)) h

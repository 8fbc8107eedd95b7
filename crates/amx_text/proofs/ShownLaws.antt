-- How names and rows of cells are spelled: of which bytes, and that no two are spelled as one.
use Rattle.std.proofs.Common.{◌≡◌, ◌<◌, ℕ, ℤ, pos, Bool, true, false, not, ◌&&◌, ◌==◌, List, []}
use Rattle.std.proofs.Common.{◌∷◌, ◌++◌, cond, map, nat_le, All, refl, sym, ap, ◌∙◌, append_assoc}
use Rattle.std.proofs.Common.{arith, FitsSigned, w32, le-leb, leb-true}
use Rattle.std.specs.List.{list_all, flat_map}
use Rattle.std.specs.Fmt.{decimal, signed_decimal}
use Rattle.std.proofs.lemmas.Bool.{and_parts, and_from, true≢false}
use Rattle.std.proofs.lemmas.List.Elements.{All-head, All-tail}
use Rattle.pawn_base.specs.Cells.{AreCells}
use Rattle.host_script.specs.declared.event.Seen.TheVariants.{Cell}
use Rattle.host_script.specs.Text.{arguments_text, character_text, escaped, stands_for_itself}
use Rattle.amx_text.specs.Lines.{cells_line}
use Rattle.amx_text.proofs.PartLaws.{stops, all-append, all-weaker}
use Rattle.amx_text.proofs.SpellLaws.{is_numeral, decimal_numeral, SameNumber, decimals_parted}
use Rattle.amx_text.proofs.SpellLaws.{signed_parted}

-- ---- names

-- no byte below the blank
abbrev pub is_shown : ℕ → Bool
is_shown byte = nat_le 32 byte

-- the characters of a name
abbrev pub characters : List ℕ → List ℕ
characters name = flat_map character_text (map pos name)

-- a byte, by whether it stands for itself
abbrev shown_by : Bool → ℕ → List ℕ
shown_by b byte = cond b (byte ∷ []) (escaped (pos byte))

numeral_shown : (byte : ℕ) → is_numeral byte ≡ true → is_shown byte ≡ true
numeral_shown byte h =
    let low = leb-true 45 byte (and_parts (nat_le 45 byte) (nat_le byte 57) h).0 in
    le-leb 32 byte (omega arith)

byte_shown : (byte : ℕ) (b : Bool) → stands_for_itself byte ≡ b → byte < 256
    → list_all is_shown (shown_by b byte) ≡ true
byte_shown byte true e h =
    let three = nat_le 32 byte && nat_le byte 126 && not (byte == 34) in
    let a = and_parts three (not (byte == 92)) e in
    let b = and_parts (nat_le 32 byte && nat_le byte 126) (not (byte == 34)) a.0 in
    and_from (is_shown byte) true (and_parts (nat_le 32 byte) (nat_le byte 126) b.0).0 refl
byte_shown byte false e h =
    all-append is_shown (decimal byte) (59 ∷ [])
    (all-weaker is_numeral is_shown numeral_shown (decimal byte)
    (decimal_numeral byte (omega arith)))
    refl

pub characters_shown : (name : List ℕ) → All (λ byte. byte < 256) name
    → list_all is_shown (characters name) ≡ true
characters_shown [] h = refl
characters_shown (byte ∷ name) h =
    all-append is_shown (character_text (pos byte)) (characters name)
    (byte_shown byte (stands_for_itself byte) refl (All-head (λ byte. byte < 256) byte name h))
    (characters_shown name (All-tail (λ byte. byte < 256) byte name h))

no_quote : (byte : ℕ) (b : Bool) (r s : List ℕ) → stands_for_itself byte ≡ b
    → shown_by b byte ++ r ≡ 34 ∷ s → ⊥
no_quote byte true r s h e =
    let same : byte ≡ 34 = cc in
    true≢false (sym h ∙ ap stands_for_itself same)
no_quote byte false r s h e = let quote : ℕ = 34 in let no : quote ≡ 92 = cc in omega (arith, no)

bytes_parted : (x y : ℕ) (b c : Bool) (r s : List ℕ) → stands_for_itself x ≡ b
    → stands_for_itself y ≡ c → x < 256 → y < 256 → shown_by b x ++ r ≡ shown_by c y ++ s
    → SameNumber x y r s
bytes_parted x y true true r s h k u v e = record { number = cc; rest = cc }
bytes_parted x y true false r s h k u v e =
    let same : x ≡ 92 = cc in
    absurd (true≢false (sym h ∙ ap stands_for_itself same))
bytes_parted x y false true r s h k u v e =
    let same : y ≡ 92 = cc in
    absurd (true≢false (sym k ∙ ap stands_for_itself same))
bytes_parted x y false false r s h k u v e =
    let inner : (decimal x ++ (59 ∷ [])) ++ r ≡ (decimal y ++ (59 ∷ [])) ++ s = cc in
    let it =
    decimals_parted x y (59 ∷ r) (59 ∷ s) (omega arith) (omega arith) refl refl
    (sym (append_assoc (decimal x) (59 ∷ []) r) ∙ inner ∙ append_assoc (decimal y) (59 ∷ []) s) in
    let rest : 59 ∷ r ≡ 59 ∷ s = it.rest in
    record { number = it.number; rest = cc }

-- two names in front of their quotes
pub names_parted : (xs ys r s : List ℕ) → All (λ byte. byte < 256) xs
    → All (λ byte. byte < 256) ys → characters xs ++ (34 ∷ r) ≡ characters ys ++ (34 ∷ s)
    → SameNumber xs ys r s
names_parted [] [] r s h k e = record { number = refl; rest = cc }
names_parted [] (y ∷ ys) r s h k e =
    absurd (no_quote y (stands_for_itself y) (characters ys ++ (34 ∷ s)) r refl
    (sym (append_assoc (character_text (pos y)) (characters ys) (34 ∷ s)) ∙ sym e))
names_parted (x ∷ xs) [] r s h k e =
    absurd (no_quote x (stands_for_itself x) (characters xs ++ (34 ∷ r)) s refl
    (sym (append_assoc (character_text (pos x)) (characters xs) (34 ∷ r)) ∙ e))
names_parted (x ∷ xs) (y ∷ ys) r s h k e =
    let it =
    bytes_parted x y (stands_for_itself x) (stands_for_itself y) (characters xs ++ (34 ∷ r))
    (characters ys ++ (34 ∷ s)) refl refl (All-head (λ byte. byte < 256) x xs h)
    (All-head (λ byte. byte < 256) y ys k)
    (sym (append_assoc (character_text (pos x)) (characters xs) (34 ∷ r)) ∙ e
    ∙ append_assoc (character_text (pos y)) (characters ys) (34 ∷ s)) in
    let others =
    names_parted xs ys r s (All-tail (λ byte. byte < 256) x xs h)
    (All-tail (λ byte. byte < 256) y ys k) it.rest in
    let first : x ≡ y = it.number in
    let more : xs ≡ ys = others.number in
    record { number = λ i. first i ∷ more i; rest = others.rest }

-- ---- rows of cells

pub cells-cons : (cell : ℤ) (cells : List ℤ)
    → cells_line (cell ∷ cells) ≡ 32 ∷ (signed_decimal cell ++ cells_line cells)
cells-cons cell cells =
    ap (λ text. 32 ∷ text)
    (append_assoc (signed_decimal cell) (arguments_text (map Cell cells)) (10 ∷ []))

-- a row ends what stands before it
pub cells_stop : (p : ℕ → Bool) (cells : List ℤ) → p 32 ≡ false → p 10 ≡ false
    → stops p (cells_line cells) ≡ true
cells_stop p [] h k = ap not k
cells_stop p (cell ∷ cells) h k = ap not h

-- no two rows are one
pub same_cells : (xs ys : List ℤ) → AreCells xs → AreCells ys → cells_line xs ≡ cells_line ys
    → xs ≡ ys
same_cells [] [] h k e = refl
same_cells [] (y ∷ ys) h k e = absurd (let blank : ℕ = 32 in let no : blank ≡ 10 = cc in omega (arith, no))
same_cells (x ∷ xs) [] h k e = absurd (let blank : ℕ = 32 in let no : blank ≡ 10 = cc in omega (arith, no))
same_cells (x ∷ xs) (y ∷ ys) h k e =
    let both : 32 ∷ (signed_decimal x ++ cells_line xs) ≡ 32 ∷ (signed_decimal y ++ cells_line ys) =
    sym (cells-cons x xs) ∙ e ∙ cells-cons y ys in
    let inner : signed_decimal x ++ cells_line xs ≡ signed_decimal y ++ cells_line ys = cc in
    let it =
    signed_parted x y (cells_line xs) (cells_line ys) (All-head (FitsSigned w32) x xs h)
    (All-head (FitsSigned w32) y ys k) (cells_stop is_numeral xs refl refl)
    (cells_stop is_numeral ys refl refl) inner in
    let first : x ≡ y = it.number in
    let more : xs ≡ ys =
    same_cells xs ys (All-tail (FitsSigned w32) x xs h) (All-tail (FitsSigned w32) y ys k)
    it.rest in
    λ i. first i ∷ more i

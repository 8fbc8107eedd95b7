-- Numbers in bytes, cells and names, each read back behind what stands in front of it.
use Rattle.std.proofs.Common.{◌≡◌, ◌+◌, ◌^◌, ◌<◌, ◌≢◌, ℕ, zero, suc, ℤ, List, [], ◌∷◌, ◌++◌, length}
use Rattle.std.proofs.Common.{drop, refl, ap, ◌∙◌, arith}
use Rattle.std.specs.Prelude.{FitsSigned, All}
use Rattle.std.specs.Int.{w32, cast_unsigned, cast_signed}
use Rattle.std.proofs.lemmas.Int.{to_z-of_z}
use Rattle.std.proofs.lemmas.List.{append_assoc, drop_at, length-append}
use Rattle.std.proofs.lemmas.List.Elements.{All-head, All-tail}
use Rattle.byteorder.specs.Numbers.{little_number-reads_back}
use mir.Facts.{Fits-of_z}
use Rattle.amx_format.specs.Numbers.{word_at, cell_at, cells_at}
use Rattle.amx_ops.specs.Names.{name_from}
use Rattle.amx_format.specs.Layout.{word, cells}

pub length-word : (x : ℕ) → length (word x) ≡ 4
unfolding word
length-word x = refl

word_first : (x : ℕ) (rest : List ℕ) → x < 2 ^ 32 → word_at (word x ++ rest) 0 ≡ x
unfolding word word_at
word_first x rest h = little_number-reads_back 4 x rest h

word_at-drop : (bytes rest : List ℕ) (place : ℕ) → drop place bytes ≡ rest
    → word_at bytes place ≡ word_at rest 0
unfolding word_at
word_at-drop bytes rest place e = rw e refl

-- the word behind a front
pub word_at-word : (front rest : List ℕ) (place x : ℕ) → length front ≡ place → x < 2 ^ 32
    → word_at (front ++ (word x ++ rest)) place ≡ x
word_at-word front rest place x e h =
    word_at-drop (front ++ (word x ++ rest)) (word x ++ rest) place
    (drop_at front (word x ++ rest) place e) ∙ word_first x rest h

pub bits_below : (z : ℤ) → FitsSigned w32 z → cast_unsigned w32 z < 2 ^ 32
bits_below z fits = (Fits-of_z {w = w32} {z = z} fits).fits

-- the same for a number with a sign
pub cell_at-word : (front rest : List ℕ) (place : ℕ) (z : ℤ) → length front ≡ place
    → FitsSigned w32 z → cell_at (front ++ (word (cast_unsigned w32 z) ++ rest)) place ≡ z
cell_at-word front rest place z e fits =
    ap (cast_signed w32) (word_at-word front rest place (cast_unsigned w32 z) e (bits_below z fits))
    ∙ to_z-of_z w32 z fits

-- cells behind a front
pub cells_at-cells : (front back : List ℕ) (place : ℕ) (row : List ℤ) → length front ≡ place
    → All (FitsSigned w32) row → cells_at (front ++ (cells row ++ back)) place (length row) ≡ row
cells_at-cells front back place [] e fits = refl
cells_at-cells front back place (z ∷ row) e fits =
    let w = word (cast_unsigned w32 z) in
    let one : front ++ ((w ++ cells row) ++ back) ≡ front ++ (w ++ (cells row ++ back)) =
    simp append_assoc in
    let two : front ++ ((w ++ cells row) ++ back) ≡ (front ++ w) ++ (cells row ++ back) =
    simp append_assoc in
    let long : length (front ++ w) ≡ place + 4 = simp (length-append, length-word) (omega arith) in
    let head : cell_at (front ++ ((w ++ cells row) ++ back)) place ≡ z =
    ap (λ (bytes : List ℕ). cell_at bytes place) one
    ∙ cell_at-word front (cells row ++ back) place z e (All-head (FitsSigned w32) z row fits) in
    let tail : cells_at (front ++ ((w ++ cells row) ++ back)) (place + 4) (length row) ≡ row =
    ap (λ (bytes : List ℕ). cells_at bytes (place + 4) (length row)) two
    ∙ cells_at-cells (front ++ w) back (place + 4) row long
    (All-tail (FitsSigned w32) z row fits) in
    cc

-- a name and its zero
pub name_from-name : (name rest : List ℕ) → All (λ byte. byte ≢ 0) name
    → name_from (name ++ 0 ∷ rest) ≡ name
name_from-name [] rest h = refl
name_from-name (zero ∷ name) rest h = absurd (All-head (λ byte. byte ≢ 0) zero name h refl)
name_from-name (suc byte ∷ name) rest h =
    ap (λ (bytes : List ℕ). suc byte ∷ bytes)
    (name_from-name name rest (All-tail (λ byte. byte ≢ 0) (suc byte) name h))

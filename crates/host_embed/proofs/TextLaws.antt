-- Characters of cells.
use Rattle.std.proofs.Common.{◌≡◌, ◌+◌, ◌*◌, ◌/◌, ◌%◌, ◌<◌, ℕ, suc, ℤ, pos}
use Rattle.std.proofs.Common.{List, [], ◌∷◌, ◌++◌, length, take, drop, set, get_or}
use Rattle.std.proofs.Common.{refl, sym, ap, ◌∙◌, append_assoc, arith, length-append, length-take}
use Rattle.std.specs.Prelude.{option_map}
use Rattle.std.specs.List.{flat_map}
use Rattle.std.specs.Int.{w32, cast_unsigned, to_be_bytes}
use Rattle.std.proofs.Math.Seq.{drop-cons, take-suc, set-append_seam}
use Rattle.std.proofs.lemmas.List.{get_or-map}
use Rattle.std.proofs.lemmas.List.Concat.{get_or-flat_map}
use Rattle.host_script.specs.Script.{before_zero, bytes_of}

-- ---- four characters in a cell

bytes_length : (cell : ℤ) → length (bytes_of cell) ≡ 4
bytes_length cell = refl

pub spread_length : (cells : List ℤ) → length (flat_map bytes_of cells) ≡ 4 * length cells
spread_length [] = refl
spread_length (cell ∷ cells) =
    length-append (bytes_of cell) (flat_map bytes_of cells)
    ∙ omega (arith, bytes_length cell, spread_length cells)

pub byte_is : (cells : List ℤ) (k : ℕ) → k < 4 * length cells
    → get_or (flat_map bytes_of cells) k (pos 0) ≡ get_or (bytes_of (get_or cells (k / 4) (pos 0))) (k % 4) (pos 0)
byte_is cells k h =
    let i = k / 4 in
    let within : i < length cells = omega (arith, h) in
    let taken : length (take i cells) ≡ i = omega (arith, within, length-take i cells) in
    let place : k ≡ length (flat_map bytes_of (take i cells)) + k % 4 =
    omega (arith, spread_length (take i cells), taken) in
    ap (λ n. get_or (flat_map bytes_of cells) n (pos 0)) place
    ∙ get_or-flat_map bytes_of cells i (k % 4) (pos 0) (pos 0) within
    (omega (arith, bytes_length (get_or cells i (pos 0))))

pub byte_of : (cell : ℤ) (j : ℕ) → j < 4
    → get_or (bytes_of cell) j (pos 0) ≡ pos (get_or (to_be_bytes w32 (cast_unsigned w32 cell)) j 0)
byte_of cell j h = get_or-map pos (to_be_bytes w32 (cast_unsigned w32 cell)) j 0 (pos 0) h

-- ---- up to a zero

-- what is left to look at
abbrev pub Left : List ℤ → ℕ → Type 0
Left all i = before_zero all ≡ option_map (λ rest. take i all ++ rest) (before_zero (drop i all))

-- ---- a copy

pub copy_more : (xs old : List ℤ) (i : ℕ) → i < length xs → i < length old
    → set (take i xs ++ drop i old) i (get_or xs i (pos 0)) ≡ take (i + 1) xs ++ drop (i + 1) old
copy_more xs old i hx ho =
    let taken : length (take i xs) ≡ i = omega (arith, hx, length-take i xs) in
    ap (λ ys. set (take i xs ++ ys) i (get_or xs i (pos 0))) (drop-cons old i (pos 0) ho)
    ∙ ap (λ n. set (take i xs ++ get_or old i (pos 0) ∷ drop (suc i) old) n (get_or xs i (pos 0))) (sym taken)
    ∙ set-append_seam (take i xs) (get_or old i (pos 0)) (drop (suc i) old) (get_or xs i (pos 0))
    ∙ sym (append_assoc (take i xs) (get_or xs i (pos 0) ∷ []) (drop (suc i) old))
    ∙ ap (λ ys. ys ++ drop (suc i) old) (sym (take-suc xs i (pos 0) hx))
    ∙ ap (λ n. take n xs ++ drop n old) next where
      next : suc i ≡ i + 1
      next = omega arith

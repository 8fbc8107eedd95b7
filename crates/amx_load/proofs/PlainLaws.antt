-- Plain cells: as a file has them, and as a block does.
use Rattle.std.proofs.Common.{◌≡◌, ◌+◌, ◌*◌, ◌<◌, ◌≤◌, ℕ, zero, suc, ℤ, pos, List}
use Rattle.std.proofs.Common.{length, get_or, take, drop, refl, sym, ap, ◌∙◌, arith, w32}
use Rattle.std.proofs.Common.{FitsSigned}
use Rattle.std.proofs.lemmas.List.{get_or-take, get_or-drop, length-drop, length-take-le}
use Rattle.pawn_cells.specs.Cells.{cell_of}
use Rattle.amx_ops.specs.Access.{byte_at, four_bytes}
use Rattle.amx_block.specs.Loaded.{IsPut}
use Rattle.amx_block.proofs.ForCallers.{cell_of_bytes}
use Rattle.amx_format.specs.Numbers.{word_at, cell_at, cells_at}
use Rattle.amx_load.specs.Plain.{ArePlain}

length-cells_at : (bytes : List ℕ) (place n : ℕ) → length (cells_at bytes place n) ≡ n
length-cells_at bytes place zero = refl
length-cells_at bytes place (suc n) = ap suc (length-cells_at bytes (place + 4) n)

get_or-cells_at : (bytes : List ℕ) (place n i : ℕ) → i < n
    → get_or (cells_at bytes place n) i (pos 0) ≡ cell_at bytes (place + 4 * i)
get_or-cells_at bytes place zero i h = absurd (omega (arith, h))
get_or-cells_at bytes place (suc n) zero h =
    let here : place ≡ place + 4 * 0 = omega arith in ap (cell_at bytes) here
get_or-cells_at bytes place (suc n) (suc i) h =
    let there : place + 4 + 4 * i ≡ place + 4 * suc i = omega arith in
    get_or-cells_at bytes (place + 4) n i (omega (arith, h)) ∙ ap (cell_at bytes) there

word_is : (bytes : List ℕ) (place : ℕ)
    → word_at bytes place ≡ four_bytes (λ k. get_or bytes k 0) place
unfolding word_at
word_is bytes place =
    let here : place + 0 ≡ place = omega arith in
    omega (
      arith,
      get_or-drop place bytes 0 0 ∙ ap (λ k. get_or bytes k 0) here,
      get_or-drop place bytes 1 0,
      get_or-drop place bytes 2 0,
      get_or-drop place bytes 3 0,
    )

same_four : (f g : ℕ → ℕ) (a b : ℕ) → ((j : ℕ) → j < 4 → f (a + j) ≡ g (b + j))
    → four_bytes f a ≡ four_bytes g b
same_four f g a b same =
    let first : a + 0 ≡ a = omega arith in
    let second : b + 0 ≡ b = omega arith in
    omega (
      arith,
      sym (ap f first) ∙ same 0 (omega arith) ∙ ap g second,
      same 1 (omega arith),
      same 2 (omega arith),
      same 3 (omega arith),
    )

-- a row of a file
module _ (bytes : List ℕ) (place n : ℕ) (cells : List ℤ) (row : List ℕ)
    (is : cells ≡ cells_at bytes place n) (part : row ≡ take (4 * n) (drop place bytes))
    (within : place + 4 * n ≤ length bytes) where
  count : length cells ≡ n
  count = ap length is ∙ length-cells_at bytes place n

  byte_of_row : (k : ℕ) → k < 4 * n → get_or row k 0 ≡ get_or bytes (place + k) 0
  byte_of_row k h =
      ap (λ list. get_or list k 0) part ∙ get_or-take (4 * n) (drop place bytes) k 0 h
      ∙ get_or-drop place bytes k 0

  each : (i : ℕ) → i < length cells
      → get_or cells i (pos 0) ≡ cell_of (four_bytes (λ k. get_or row k 0) (4 * i))
  each i h =
      ap (λ list. get_or list i (pos 0)) is
      ∙ get_or-cells_at bytes place n i (omega (arith, h, count))
      ∙ ap cell_of (word_is bytes (place + 4 * i)
      ∙ same_four (λ k. get_or bytes k 0) (λ k. get_or row k 0) (place + 4 * i) (4 * i)
      (λ j l. let there : place + 4 * i + j ≡ place + (4 * i + j) = omega arith in
      ap (λ k. get_or bytes k 0) there
      ∙ sym (byte_of_row (4 * i + j) (omega (arith, h, l, count)))))

  pub plain_row : ArePlain cells row
  plain_row = record {
    size =
        ap length part
        ∙ length-take-le (4 * n) (drop place bytes) (omega
        (arith, within, length-drop place bytes))
        ∙ ap (λ k. 4 * k) (sym count);
    each = each;
  }

-- a row that was put
pub plain_put : (cells : List ℤ) (row : List ℕ) (old new : List ℤ) → ArePlain cells row
    → IsPut row (length row) old new → (i : ℕ) → i < length cells
    → get_or new i (pos 0) ≡ get_or cells i (pos 0)
plain_put cells row old new plain put i h =
    let fits : FitsSigned w32 (get_or new i (pos 0)) =
    put.fits i (omega (arith, h, plain.size)) in
    sym (cell_of_bytes new i fits)
    ∙ ap cell_of (same_four (byte_at new) (λ k. get_or row k 0) (4 * i) (4 * i)
    (λ j l. put.put (4 * i + j) (omega (arith, h, l, plain.size))))
    ∙ sym (plain.each i h)

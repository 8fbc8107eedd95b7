-- Cells that are equal, as their bytes.
use Rattle.std.proofs.Common.{◌≡◌, ◌+◌, ◌*◌, ◌/◌, ◌%◌, ◌-◌, ◌<◌, ◌≤◌, ℕ, ℤ, pos, List, get_or}
use Rattle.std.proofs.Common.{drop, sym, ap, ◌∙◌, arith}
use Rattle.std.proofs.lemmas.List.{get_or-take, get_or-drop}
use Rattle.pawn_cells.specs.Cells.{char_at}
use Rattle.amx_ops.specs.Access.{byte_at}
use Rattle.amx_block.specs.Contents.{part_at, cell_at}

-- a cell of a part
pub cell_of_part : (cells : List ℤ) (at count i : ℕ) → at % 4 ≡ 0 → i < count
    → get_or (part_at cells at count) i (pos 0) ≡ cell_at cells (at + 4 * i)
cell_of_part cells at count i whole h =
    let place : at / 4 + i ≡ (at + 4 * i) / 4 = omega (arith, whole) in
    get_or-take count (drop (at / 4) cells) i (pos 0) h
    ∙ get_or-drop (at / 4) cells i (pos 0) ∙ ap (λ j. get_or cells j (pos 0)) place

pub byte_of_cell : (cells : List ℤ) (at k : ℕ) → at % 4 ≡ 0
    → byte_at cells (at + k) ≡ char_at (cell_at cells (at + 4 * (k / 4))) (3 - k % 4)
byte_of_cell cells at k whole =
    let place : (at + k) / 4 ≡ (at + 4 * (k / 4)) / 4 = omega (arith, whole) in
    let rest : (at + k) % 4 ≡ k % 4 = omega (arith, whole) in
    ap (λ j. char_at (get_or cells j (pos 0)) (3 - (at + k) % 4)) place
    ∙ ap (λ r. char_at (cell_at cells (at + 4 * (k / 4))) (3 - r)) rest

module _ (cells first second : List ℤ) (at to count found : ℕ) (at_whole : at % 4 ≡ 0)
    (to_whole : to % 4 ≡ 0) (few : found ≤ count) (first_is : first ≡ part_at cells at count)
    (second_is : second ≡ part_at cells to count) where
  in_first : (i : ℕ) → i < count → get_or first i (pos 0) ≡ cell_at cells (at + 4 * i)
  in_first i h =
      ap (λ list. get_or list i (pos 0)) first_is ∙ cell_of_part cells at count i at_whole h

  in_second : (i : ℕ) → i < count → get_or second i (pos 0) ≡ cell_at cells (to + 4 * i)
  in_second i h =
      ap (λ list. get_or list i (pos 0)) second_is ∙ cell_of_part cells to count i to_whole h

  -- equal cells have equal bytes
  pub same_bytes : ((i : ℕ) → i < found → get_or first i (pos 0) ≡ get_or second i (pos 0))
      → (k : ℕ) → k < 4 * found → byte_at cells (at + k) ≡ byte_at cells (to + k)
  same_bytes same k h =
      byte_of_cell cells at k at_whole
      ∙ ap (λ c. char_at c (3 - k % 4)) (sym (in_first (k / 4) (omega (arith, h, few)))
      ∙ same (k / 4) (omega (arith, h)) ∙ in_second (k / 4) (omega (arith, h, few)))
      ∙ sym (byte_of_cell cells to k to_whole)

  pub same_cell : found < count → cell_at cells (at + 4 * found) ≡ cell_at cells (to + 4 * found)
      → get_or first found (pos 0) ≡ get_or second found (pos 0)
  same_cell h same = in_first found h ∙ same ∙ sym (in_second found h)

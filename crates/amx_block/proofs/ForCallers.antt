-- Laws that callers of the block cite.
use Rattle.std.proofs.Common.{◌≡◌, ◌+◌, ◌*◌, ◌/◌, ◌%◌, ◌^◌, ◌<◌, ◌≤◌, ℕ, ℤ, pos, List, [], ◌++◌}
use Rattle.std.proofs.Common.{length, get_or, take, drop, sym, ap, ◌∙◌, arith, length-append}
use Rattle.std.proofs.Common.{length-take, w32, FitsSigned}
use Rattle.std.proofs.Math.Facts.{Fits-of_z}
use Rattle.std.proofs.lemmas.Int.{to_z-of_z}
use Rattle.std.proofs.lemmas.List.{drop-drop, length-drop}
use Rattle.std.proofs.Math.Seq.{take-append_seam}
use Rattle.std.proofs.Math.ListN.{drop_of_length-le}
use Rattle.pawn_cells.specs.Cells.{bits_of, cell_of, char_at}
use Rattle.amx_ops.specs.Access.{byte_at, four_bytes}
use Rattle.amx_ops.proofs.ByteLaws.{byte_is}
use Rattle.amx_block.specs.Contents.{with_part}
use Rattle.amx_block.specs.Lending.{written_over}

-- where as many cells come back as were lent, they alone are written
pub written_part : (cells new : List ℤ) (at : ℕ) → at / 4 + length new ≤ length cells
    → written_over cells at new ≡ with_part cells at (length new) new
written_part cells new at h =
    let i = at / 4 in
    let all = take i cells ++ (new ++ drop (length new) (drop i cells)) in
    let size : length all ≡ length cells =
    omega (
      arith,
      h,
      length-append (take i cells) (new ++ drop (length new) (drop i cells)),
      length-append new (drop (length new) (drop i cells)),
      length-take i cells,
      length-drop (length new) (drop i cells),
      length-drop i cells,
    ) in
    let none : drop (length all) cells ≡ [] = drop_of_length-le cells (omega (arith, size)) in
    ap (λ rest. take (length cells) (all ++ rest)) none
    ∙ ap (λ n. take n (all ++ [])) (sym size)
    ∙ take-append_seam all []
    ∙ ap (λ rest. take i cells ++ (new ++ rest)) (drop-drop (length new) i cells)

-- ---- a cell is made of its bytes

four_parts : (n : ℕ) → n < 2 ^ 32
    → n / 1 % 256 + 256 * (n / 256 % 256) + 65536 * (n / 65536 % 256) + 16777216
    * (n / 16777216 % 256) ≡ n
four_parts n h = omega arith

of_chars : (cell : ℤ) → FitsSigned w32 cell
    → cell_of (char_at cell 3 + 256 * char_at cell 2 + 65536 * char_at cell 1 + 16777216
    * char_at cell 0) ≡ cell
of_chars cell fits =
    ap cell_of (four_parts (bits_of cell) (Fits-of_z {w = w32} {z = cell} fits).fits)
    ∙ to_z-of_z w32 cell fits

pub cell_of_bytes : (cells : List ℤ) (i : ℕ) → FitsSigned w32 (get_or cells i (pos 0))
    → cell_of (four_bytes (byte_at cells) (4 * i)) ≡ get_or cells i (pos 0)
cell_of_bytes cells i fits =
    let zero_more : 4 * i ≡ 4 * i + 0 = omega arith in
    let first = ap (byte_at cells) zero_more ∙ byte_is cells i 0 (omega arith) in
    let second = byte_is cells i 1 (omega arith) in
    let third = byte_is cells i 2 (omega arith) in
    let fourth = byte_is cells i 3 (omega arith) in
    let sum : four_bytes (byte_at cells) (4 * i)
    ≡ char_at (get_or cells i (pos 0)) 3 + 256 * char_at (get_or cells i (pos 0)) 2
    + 65536 * char_at (get_or cells i (pos 0)) 1 + 16777216 * char_at (get_or cells i (pos 0)) 0 =
    cc (first, second, third, fourth) in
    ap cell_of sum ∙ of_chars (get_or cells i (pos 0)) fits

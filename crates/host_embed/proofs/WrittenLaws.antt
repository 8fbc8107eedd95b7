-- Cells of a text that are written one after another.
use Rattle.std.proofs.Common.{◌≡◌, ◌+◌, ◌-◌, ◌*◌, ◌<◌, ◌≤◌, ◌++◌, inl, inr, ℕ, ℤ, pos, List, [], ◌∷◌}
use Rattle.std.proofs.Common.{Bool, true, false, length, take, drop, set, get_or, refl, sym, ap, subst, ◌∙◌, arith}
use Rattle.std.proofs.Common.{length-append}
use Rattle.std.proofs.lemmas.Bool.{cases_lt}
use Rattle.std.proofs.lemmas.Grind.{flat_map-append, drop_more_same}
use Rattle.std.proofs.lemmas.List.{get_or_append_left, get_or-append_right, take_more_set, drop-set-lt}
use Rattle.std.proofs.lemmas.List.{length-take, take-append-drop}
use Rattle.host_script.specs.Script.{bytes_of}
use Rattle.host_embed.specs.Texts.{spread}
use Rattle.host_embed.specs.Written.{AreBytesFrom, IsSpelled, per_cell, text_cells}
use Rattle.host_embed.proofs.TextLaws.{spread_length}

spread_size : (packed : Bool) (cells : List ℤ)
    → length (spread packed cells) ≡ per_cell packed * length cells
spread_size true cells = spread_length cells
spread_size false cells = omega arith

spread_more : (packed : Bool) (cells more : List ℤ)
    → spread packed (cells ++ more) ≡ spread packed cells ++ spread packed more
spread_more true cells more = flat_map-append bytes_of cells more
spread_more false cells more = refl

module _ (packed : Bool) (text : List ℕ) where
  -- what is written, and the next cells
  bytes_more : (cells more : List ℤ) (from : ℕ) → from ≡ per_cell packed * length cells
      → AreBytesFrom packed text 0 cells → AreBytesFrom packed text from more
      → AreBytesFrom packed text 0 (cells ++ more)
  bytes_more cells more from at before next =
      let xs = spread packed cells in
      let ys = spread packed more in
      let size : length xs ≡ from = spread_size packed cells ∙ sym at in
      subst (λ (zs : List ℤ). (i : ℕ) → i < length zs → get_or zs i (pos 0) ≡ pos (get_or text (0 + i) 0))
      (sym (spread_more packed cells more))
      (λ i h. elim (cases_lt i (length xs)) [
        | inl g ↦ get_or_append_left xs ys (pos 0) i g ∙ before i g
        | inr g ↦
            let there : from + (i - from) ≡ 0 + i = omega (arith, g, size) in
            get_or-append_right xs ys from i (pos 0) size (omega (arith, g, size))
            ∙ next (i - from) (omega (arith, g, h, size, length-append xs ys))
            ∙ ap (λ k. pos (get_or text k 0)) there
      ])

  -- one cell of a part
  pub spell_next : (part : List ℤ) (index : ℕ) (cell : ℤ) → index < length part
      → AreBytesFrom packed text 0 (take index part)
      → AreBytesFrom packed text (per_cell packed * index) (cell ∷ [])
      → AreBytesFrom packed text 0 (take (index + 1) (set part index cell))
  spell_next part index cell h before next =
      let size : index ≡ length (take index part) = omega (arith, h, length-take index part) in
      subst (AreBytesFrom packed text 0) (sym (take_more_set part index cell h))
      (bytes_more (take index part) (cell ∷ []) (per_cell packed * index)
      (ap (λ n. per_cell packed * n) size) before next)

  pub rest_next : (part old : List ℤ) (index : ℕ) (cell : ℤ) → drop index part ≡ drop index old
      → drop (index + 1) (set part index cell) ≡ drop (index + 1) old
  rest_next part old index cell e =
      drop-set-lt (index + 1) part index cell (omega arith) ∙ drop_more_same part old index e

  -- all of them
  pub spelled : (part old : List ℤ) (index : ℕ) → index ≡ text_cells packed (length text)
      → index ≤ length old → length part ≡ length old → drop index part ≡ drop index old
      → AreBytesFrom packed text 0 (take index part) → IsSpelled packed text old part
  spelled part old index all room size rest bytes =
      let count : length (take index part) ≡ index =
      omega (arith, room, size, length-take index part) in (
        take index part,
        record { count = count ∙ all; bytes = bytes },
        sym (take-append-drop index part)
            ∙ ap (λ xs. take index part ++ xs) rest
            ∙ ap (λ n. take index part ++ drop n old) (sym count),
      )

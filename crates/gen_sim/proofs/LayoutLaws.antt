-- The offsets of an array by its sizes are the one layout of its shape, and its extent is the
-- number of its cells.
use Rattle.std.proofs.Common.{◌≡◌, ◌+◌, ◌*◌, ◌-◌, ◌<◌, ℕ, zero, suc, ℤ, pos, List, [], ◌∷◌, Some}
use Rattle.std.proofs.Common.{length, refl, sym, ap, subst, ◌∙◌, arith, length-append}
use Rattle.std.proofs.lemmas.Option.{slice_get_within}
use Rattle.pawn_arrays.specs.Sizes.{cells_in, cells_of, elements_in}
use Rattle.pawn_arrays.specs.Layout.{part_place, LeadsToParts, AreOffsets}
use Rattle.gen_sim.specs.Pieces.{offsets, vectors_of, vectors}
use Rattle.gen_sim.proofs.LeadLaws.{length_offsets, offset_is}

-- ---- how many cells

cells_of_levels : (parts : ℕ) (sizes : List ℕ)
    → length (vectors_of parts sizes) + parts * elements_in sizes ≡ parts + cells_in parts sizes
cells_of_levels parts [] = omega arith
cells_of_levels parts (size ∷ inner) =
    let r = cells_of_levels (parts * size) inner in
    let l = length-append (offsets 0 parts size) (vectors_of (parts * size) inner) in
    omega (arith, r, l, length_offsets 0 parts size)

-- a thing takes as many cells as an array of its sizes
pub extent_is : (size : ℕ) (inner : List ℕ)
    → length (vectors (size ∷ inner)) + elements_in (size ∷ inner) ≡ cells_of (size ∷ inner)
extent_is size inner =
    let one : 1 * size ≡ size = omega arith in
    omega (arith, cells_of_levels size inner, ap (λ n. cells_in n inner) one)

-- ---- the layout

place_is : (start size i : ℕ) → part_place start size i ≡ start + 4 * (i * size)
place_is start size zero = omega arith
place_is start size (suc i) = omega (arith, place_is start size i)

offsets_lead : (start parts size : ℕ) → LeadsToParts start size (offsets 0 parts size)
offsets_lead start parts size = record {
  leads = λ i offset e.
      let n = length_offsets 0 parts size in
      let below : i < parts =
      omega (arith, n, slice_get_within (offsets 0 parts size) i offset e) in
      let is : Some offset ≡ Some (pos (4 * (parts - i + (0 + i) * size))) =
      sym e ∙ offset_is 0 parts size i below in
      let o : offset ≡ pos (4 * (parts - i + (0 + i) * size)) = inside is in
      rw (o, place_is (start + 4 * length (offsets 0 parts size)) size i, n)
      (ap pos (omega (arith, below)));
}
  where
    inside : {x y : ℤ} → Some x ≡ Some y → x ≡ y
    inside z = cc

-- so many parts of the first size have the vectors of the levels behind it
layout_from : (start parts size : ℕ) (inner : List ℕ)
    → AreOffsets start parts (size ∷ inner) (vectors_of (parts * size) inner)
layout_from start parts size [] = refl
layout_from start parts size (next ∷ inner) = (
  offsets 0 (parts * size) next,
  vectors_of (parts * size * next) inner,
  refl,
  length_offsets 0 (parts * size) next,
  offsets_lead start (parts * size) next,
  layout_from (start + 4 * (parts * size)) (parts * size) next inner,
)

-- the offsets of an array are a layout of its sizes
pub vectors_are_layout : (size : ℕ) (inner : List ℕ)
    → AreOffsets 0 1 (size ∷ inner) (vectors (size ∷ inner))
vectors_are_layout size inner =
    let one : 1 * size ≡ size = omega arith in
    subst (λ n. AreOffsets 0 1 (size ∷ inner) (vectors_of n inner)) one (layout_from 0 1 size inner)

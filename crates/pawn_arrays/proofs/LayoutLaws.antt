-- Places by multiplication, the vector as it grows, and that a layout is the only one.
use Rattle.std.proofs.Common.{◌≡◌, ◌<◌, ◌≤◌, ◌+◌, ◌-◌, ◌*◌, ◌^◌, ℕ, zero, suc, ℤ, pos, ◌+ℤ◌, List}
use Rattle.std.proofs.Common.{[], ◌∷◌, ◌++◌, length, get_or, Option, Some, None, IsNone, refl, sym}
use Rattle.std.proofs.Common.{ap, subst, ◌∙◌, ◌⊎◌, inl, inr, arith, to_z, w32, length-append}
use Rattle.std.proofs.Common.{append_assoc, append-nil, mul-le-mul_right}
use Rattle.std.proofs.lemmas.Int.{ints}
use Rattle.std.proofs.lemmas.List.{ext_get_or}
use Rattle.std.proofs.lemmas.Option.{slice_get-get_or, slice_get_within, get_or_from_slice_get}
use Rattle.std.proofs.Math.ListN.{get_or-append}
use Rattle.std.proofs.Math.Seq.{get_or-append_seam}
use Rattle.pawn_arrays.specs.Sizes.{cells_in, inner_sizes, sizes}
use Rattle.pawn_arrays.specs.Layout.{part_place, LeadsToParts, AreOffsets, IsLayout, part_cells}
use Rattle.pawn_arrays.specs.Layout.{inner_cells, inner_place}
use Rattle.pawn_arrays.specs.declared.shape.Shape.{Shape}
use Rattle.pawn_arrays.specs.Vector.{HasVector}

-- behind the first place stand as many parts as the number says
pub part_place-is : (start size i : ℕ) → part_place start size i ≡ start + 4 * (i * size)
part_place-is start size zero = omega arith
part_place-is start size (suc i) =
    let before = part_place-is start size i in
    omega (arith, before)

-- offsets so far of a vector of so many cells lead to the parts behind it
pub record LeadsSoFar (cells size : ℕ) (offsets : List ℤ) : Type 0 where
  pub leads : (i : ℕ) → i < length offsets
      → pos (4 * i) +ℤ get_or offsets i (pos 0) ≡ pos (part_place (4 * cells) size i)

pub leads_none : (cells size : ℕ) → LeadsSoFar cells size []
leads_none cells size = record { leads = λ i h. absurd (omega (arith, h)) }

le_cases : (i n : ℕ) → i < n + 1 → (i < n) ⊎ (i ≡ n)
le_cases i n h = grind (arith, h)

pub leads_more : (cells size : ℕ) (offsets : List ℤ) (offset : ℤ) (n : ℕ) → length offsets ≡ n
    → LeadsSoFar cells size offsets
    → pos (4 * n) +ℤ offset ≡ pos (part_place (4 * cells) size n)
    → LeadsSoFar cells size (offsets ++ offset ∷ [])
leads_more cells size offsets offset n counted so_far new = record {
  leads = λ i within.
      let longer = length-append offsets (offset ∷ []) in
      elim (le_cases i n (omega (arith, within, longer, counted))) [
        | inl below ↦
            let inside : i < length offsets = omega (arith, below, counted) in
            let e = get_or-append offsets (offset ∷ []) (pos 0) i inside in
            subst (λ z. pos (4 * i) +ℤ z ≡ pos (part_place (4 * cells) size i)) (sym e)
            (so_far.leads i inside)
        | inr here ↦
            let e : get_or (offsets ++ offset ∷ []) i (pos 0) ≡ offset =
            ap (λ k. get_or (offsets ++ offset ∷ []) k (pos 0)) (here ∙ sym counted)
            ∙ get_or-append_seam offsets offset [] (pos 0) in
            let f =
            subst (λ k. pos (4 * k) +ℤ offset ≡ pos (part_place (4 * cells) size k))
            (sym here) new in
            subst (λ z. pos (4 * i) +ℤ z ≡ pos (part_place (4 * cells) size i)) (sym e) f
      ];
}

-- offsets that lead to the parts, one for each cell of the vector, wherever it stands
pub all_lead : (start cells size : ℕ) (offsets : List ℤ) → length offsets ≡ cells
    → LeadsSoFar cells size offsets → LeadsToParts start size offsets
all_lead start cells size offsets counted so_far = record {
  leads = λ i offset here.
      let within = slice_get_within offsets i offset here in
      let e = get_or_from_slice_get offsets i offset (pos 0) here in
      let f = so_far.leads i within in
      let g : pos (4 * i) +ℤ offset ≡ pos (part_place (4 * cells) size i) =
      ap (λ z. pos (4 * i) +ℤ z) (sym e) ∙ f in
      let near = part_place-is (4 * cells) size i in
      let far = part_place-is (start + 4 * length offsets) size i in
      let on : part_place (start + 4 * length offsets) size i
      ≡ start + part_place (4 * cells) size i = omega (arith, near, far, counted) in
      omega (arith, ints, g, on);
}

-- a list of offsets with a vector as it grows
pub record HasSoFar (count size : ℕ) (before : List ℤ) (n : ℕ) (now : List ℤ) : Type 0 where
  pub vector : List ℤ
  pub offsets : now ≡ before ++ vector
  pub counted : length vector ≡ n
  pub leads : LeadsSoFar count size vector

pub has_none : (count size : ℕ) (before : List ℤ) → HasSoFar count size before 0 before
has_none count size before =
    record {
      vector = [];
      offsets = sym (append-nil before);
      counted = refl;
      leads = leads_none count size;
    }

pub has_more : (count size : ℕ) (before : List ℤ) (n : ℕ) (now : List ℤ) (offset : ℤ)
    → HasSoFar count size before n now
    → pos (4 * n) +ℤ offset ≡ pos (part_place (4 * count) size n)
    → HasSoFar count size before (n + 1) (now ++ offset ∷ [])
has_more count size before n now offset has new =
    let longer = length-append has.vector (offset ∷ []) in
    record {
      vector = has.vector ++ offset ∷ [];
      offsets =
          ap (λ offsets. offsets ++ offset ∷ []) has.offsets
          ∙ append_assoc before has.vector (offset ∷ []);
      counted = omega (arith, longer, has.counted);
      leads = leads_more count size has.vector offset n has.counted has.leads new;
    }

pub has_all : (count size : ℕ) (before : List ℤ) (n : ℕ) (now : List ℤ) → n ≡ count
    → HasSoFar count size before n now → HasVector count size before now
has_all count size before n now all has = record {
  vector = has.vector;
  offsets = has.offsets;
  counted = has.counted ∙ all;
  leads = λ start. all_lead start count size has.vector (has.counted ∙ all) has.leads;
}

-- the offset at a place of a vector, from where its part begins
pub offset_is : (start size : ℕ) (offsets : List ℤ) (i : ℕ) → LeadsToParts start size offsets
    → i < length offsets
    → pos (start + 4 * i) +ℤ get_or offsets i (pos 0)
    ≡ pos (part_place (start + 4 * length offsets) size i)
offset_is start size offsets i vector within =
    vector.leads i (get_or offsets i (pos 0)) (slice_get-get_or offsets i (pos 0) within)

-- at most one vector of so many cells leads to the parts
pub vector_one : (start size : ℕ) (a b : List ℤ) → length a ≡ length b → LeadsToParts start size a
    → LeadsToParts start size b → a ≡ b
vector_one start size a b same first second = ext_get_or (pos 0) a b same (λ i within.
    let within_b : i < length b = omega (arith, within, same) in
    let e = offset_is start size a i first within in
    let f = offset_is start size b i second within_b in
    let g = ap (λ n. pos (part_place (start + 4 * n) size i)) same in
    let h : pos (start + 4 * i) +ℤ get_or a i (pos 0) ≡ pos (start + 4 * i) +ℤ get_or b i (pos 0) =
    e ∙ g ∙ sym f in
    omega (arith, ints, h))

-- at most one list has the offsets
pub offsets_one : (start parts : ℕ) (sizes : List ℕ) (a b : List ℤ) → AreOffsets start parts sizes a
    → AreOffsets start parts sizes b → a ≡ b
offsets_one start parts [] a b first second = first ∙ sym second
offsets_one start parts (size ∷ []) a b first second = first ∙ sym second
offsets_one start parts (size ∷ next ∷ inner) a b (v, d, a_is, v_len, v_leads, d_are)
    (w, e, b_is, w_len, w_leads, e_are) =
    let vectors = vector_one start next v w (v_len ∙ sym w_len) v_leads w_leads in
    let rests =
    offsets_one (start + 4 * (parts * size)) (parts * size)
    (next ∷ inner) d e d_are e_are in
    a_is ∙ ap (λ vector. vector ++ d) vectors ∙ ap (λ deeper. w ++ deeper) rests ∙ sym b_is

-- no vector is the layout of one dimension, or of a shape without a second size
pub line_laid : (first : ℕ) (second third : Option ℕ) → IsNone second
    → AreOffsets 0 1 (first ∷ inner_sizes second third) []
line_laid first None third one = refl
line_laid first (Some size) third one = absurd (cc)

-- one vector is the layout of two dimensions
pub rows_laid : (first second : ℕ) (offsets : List ℤ) → HasVector first second [] offsets
    → AreOffsets 0 1 (first ∷ second ∷ []) offsets
rows_laid first second offsets rows =
    let one : length rows.vector ≡ 1 * first = omega (arith, rows.counted) in
    (rows.vector, [], rows.offsets ∙ sym (append-nil rows.vector), one, rows.leads 0, refl)

-- and two of three
pub blocks_laid : (first second third : ℕ) (vector offsets : List ℤ)
    → HasVector first second [] vector → HasVector (first * second) third vector offsets
    → AreOffsets 0 1 (first ∷ second ∷ third ∷ []) offsets
blocks_laid first second third vector offsets parts rows =
    let one : length parts.vector ≡ 1 * first = omega (arith, parts.counted) in
    let two : length rows.vector ≡ (1 * first) * second =
    rows.counted ∙ ap (λ n. n * second) (omega arith) in (
      parts.vector,
      rows.vector,
      rows.offsets ∙ ap (λ v. v ++ rows.vector) parts.offsets,
      one,
      parts.leads 0,
      (rows.vector, [], sym (append-nil rows.vector), two, rows.leads (0 + 4 * (1 * first)), refl),
    )

-- the cells by the sizes
pub rows_count : (first : ℕ) (second : ℕ)
    → cells_in 1 (first ∷ second ∷ []) ≡ first + first * second
rows_count first second = omega arith

pub blocks_count : (first second third : ℕ)
    → cells_in 1 (first ∷ second ∷ third ∷ []) ≡ first + first * second + first * second * third
blocks_count first second third =
    let one : 1 * first * second ≡ first * second = ap (λ n. n * second) (omega arith) in
    let two : 1 * first * second * third ≡ first * second * third = ap (λ n. n * third) one in
    omega (arith, one, two)

-- the vector and the rows of a shape with a second size lie within its cells
pub parts_within : (first second : ℕ) (third : Option ℕ)
    → first + first * second ≤ cells_in 1 (first ∷ inner_sizes (Some second) third)
parts_within first second None = omega (arith, rows_count first second)
parts_within first second (Some third) = omega (arith, blocks_count first second third)

-- an index into a level of parts
pub part_below : (first size i : ℕ) → i < first → i * size + size ≤ first * size
part_below first size i h =
    let above : i + 1 ≤ first = omega (arith, h) in
    let product = mul-le-mul_right size above in
    omega (arith, product)

-- an offset of a vector of so many parts
pub offset_leads : (count size i : ℕ) → i < count → count + count * size ≤ 1048576
    → (4 * (count - i + i * size) < 2 ^ 31)
    × (4 * i + 4 * (count - i + i * size) ≡ part_place (4 * count) size i)
offset_leads count size i h limited =
    let place = part_place-is (4 * count) size i in
    let inside = part_below count size i h in
    (omega (arith, inside, limited, h), omega (arith, place, h))

-- the place by multiplication, from the sizes that are there
pub inner_place_is : (shape : Shape) (second third i j : ℕ) → part_cells shape ≡ second
    → inner_cells shape ≡ third
    → 4 * (shape.first + shape.first * second + (i * second + j) * third) ≡ inner_place shape i j
inner_place_is shape second third i j two three =
    rw (two, three)
    (let place = part_place-is (4 * (shape.first + shape.first * second)) third (i * second + j) in omega (arith, place))

-- an offset below the cells' bound is kept by the cell
pub cell_of_offset : (i n : ℕ) (place : ℕ) → n < 2 ^ 31 → 4 * i + n ≡ place
    → pos (4 * i) +ℤ to_z w32 n ≡ pos place
cell_of_offset i n place small e =
    omega (arith, ints, small, e)

-- the layouts of shapes with a second size, and with a third
pub rows_shape : (shape : Shape) (second : ℕ) (before offsets : List ℤ) → shape.second ≡ Some second
    → shape.third ≡ None → before ≡ []
    → HasVector shape.first second before offsets → IsLayout shape offsets
rows_shape shape second before offsets two three none has =
    rw (two, three) (rows_laid shape.first second offsets
    (subst (λ b. HasVector shape.first second b offsets) none has))

pub blocks_shape : (shape : Shape) (second third : ℕ) (before vector offsets : List ℤ)
    → shape.second ≡ Some second → shape.third ≡ Some third → before ≡ []
    → HasVector shape.first second before vector
    → HasVector (shape.first * second) third vector offsets → IsLayout shape offsets
blocks_shape shape second third before vector offsets two three none parts rows =
    rw (two, three) (blocks_laid shape.first second third vector offsets
    (subst (λ b. HasVector shape.first second b vector) none parts) rows)

-- a layout, where there is one, is the only one
pub layout_one : (shape : Shape) (offsets : List ℤ) → IsLayout shape offsets → (given : List ℤ)
    → IsLayout shape given → given ≡ offsets
layout_one shape offsets laid given other = offsets_one 0 1 (sizes shape) given offsets other laid

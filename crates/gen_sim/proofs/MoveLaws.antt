-- Whole cells that MOVS moves: they are put in place of others, as if all were read first.
use Rattle.std.proofs.Common.{◌≡◌, ◌+◌, ◌-◌, ◌*◌, ◌/◌, ◌%◌, ◌^◌, ◌<◌, ◌≤◌, ◌⊎◌, inl, inr, ℕ, zero}
use Rattle.std.proofs.Common.{suc, ℤ, pos, List, [], ◌∷◌, ◌++◌, Bool, true, false, ◌&&◌, ◌||◌}
use Rattle.std.proofs.Common.{length, take, drop, get_or, nat_lt, nat_le, if◌then◌else◌, refl, sym}
use Rattle.std.proofs.Common.{ap, ◌∙◌, arith, le-leb, lt-ltb}
use Rattle.std.proofs.lemmas.Bool.{cases_lt, lt-leb, le-ltb}
use Rattle.std.proofs.lemmas.Int.{to_z-of_z}
use Rattle.std.proofs.lemmas.List.{length-take-le, length-drop}
use Rattle.std.proofs.lemmas.List.Elements.{All-get_or}
use Rattle.std.proofs.lemmas.List.FromFn.{length-map-range_with_len, get_or-map-range_with_len}
use Rattle.std.specs.Int.{w32}
use Rattle.std.specs.Prelude.{All}
use Rattle.pawn_cells.specs.Cells.{IsCell, bits_of, cell_of, char_at}
use Rattle.pawn_meaning.specs.Memory.{put}
use Rattle.amx_ops.specs.Access.{is_among, is_touched, byte_moved, four_bytes, cell_moved}
use Rattle.amx_ops.specs.Access.{cells_moved}
use Rattle.amx_ops.proofs.ByteLaws.{same_cells, byte_is}
use Rattle.pawn_cells.proofs.CellLaws.{bits_fit}
use Rattle.gen_sim.proofs.Lists.{put_length}

-- ---- cells put in place of others

put_one_on : (vs : List ℤ) (x : ℤ) (xs : List ℤ) (t : ℕ) → put vs (suc t) (x ∷ xs) ≡ x ∷ put vs t xs
put_one_on vs x xs t = let e : suc t + length vs ≡ suc (t + length vs) = omega arith in rw e refl

get_front : (vs xs : List ℤ) (i : ℕ) → i < length vs
    → get_or (vs ++ xs) i (pos 0) ≡ get_or vs i (pos 0)
get_front [] xs i h = absurd (omega (arith, h))
get_front (v ∷ vs) xs zero h = refl
get_front (v ∷ vs) xs (suc i) h = get_front vs xs i (omega (arith, h))

get_behind : (vs xs : List ℤ) (i : ℕ) → length vs ≤ i → length vs ≤ length xs
    → get_or (vs ++ drop (length vs) xs) i (pos 0) ≡ get_or xs i (pos 0)
get_behind [] xs i h l = refl
get_behind (v ∷ vs) [] i h l = absurd (omega (arith, l))
get_behind (v ∷ vs) (x ∷ xs) zero h l = absurd (omega (arith, h))
get_behind (v ∷ vs) (x ∷ xs) (suc i) h l = get_behind vs xs i (omega (arith, h)) (omega (arith, l))

put_before : (vs xs : List ℤ) (t i : ℕ) → i < t → t + length vs ≤ length xs
    → get_or (put vs t xs) i (pos 0) ≡ get_or xs i (pos 0)
put_before vs xs zero i h l = absurd (omega (arith, h))
put_before vs [] (suc t) i h l = absurd (omega (arith, l))
put_before vs (x ∷ xs) (suc t) zero h l = ap (λ z. get_or z 0 (pos 0)) (put_one_on vs x xs t)
put_before vs (x ∷ xs) (suc t) (suc i) h l =
    ap (λ z. get_or z (suc i) (pos 0)) (put_one_on vs x xs t)
    ∙ put_before vs xs t i (omega (arith, h)) (omega (arith, l))

put_within : (vs xs : List ℤ) (t i : ℕ) → i < length vs → t + length vs ≤ length xs
    → get_or (put vs t xs) (t + i) (pos 0) ≡ get_or vs i (pos 0)
put_within vs xs zero i h l =
    let z : 0 + length vs ≡ length vs = omega arith in
    let j : 0 + i ≡ i = omega arith in
    rw (z, j) (get_front vs (drop (length vs) xs) i h)
put_within vs [] (suc t) i h l = absurd (omega (arith, l))
put_within vs (x ∷ xs) (suc t) i h l =
    let j : suc t + i ≡ suc (t + i) = omega arith in
    ap (λ z. get_or z (suc t + i) (pos 0)) (put_one_on vs x xs t)
    ∙ ap (λ k. get_or (x ∷ put vs t xs) k (pos 0)) j
    ∙ put_within vs xs t i h (omega (arith, l))

put_behind : (vs xs : List ℤ) (t i : ℕ) → t + length vs ≤ i → t + length vs ≤ length xs
    → get_or (put vs t xs) i (pos 0) ≡ get_or xs i (pos 0)
put_behind vs xs zero i h l =
    let z : 0 + length vs ≡ length vs = omega arith in
    rw z (get_behind vs xs i (omega (arith, h)) (omega (arith, l)))
put_behind vs [] (suc t) i h l = absurd (omega (arith, l))
put_behind vs (x ∷ xs) (suc t) zero h l = absurd (omega (arith, h))
put_behind vs (x ∷ xs) (suc t) (suc i) h l =
    ap (λ z. get_or z (suc i) (pos 0)) (put_one_on vs x xs t)
    ∙ put_behind vs xs t i (omega (arith, h)) (omega (arith, l))

get_part : (xs : List ℤ) (f n i : ℕ) → i < n
    → get_or (take n (drop f xs)) i (pos 0) ≡ get_or xs (f + i) (pos 0)
get_part [] zero zero i h = absurd (omega (arith, h))
get_part [] zero (suc n) i h = refl
get_part [] (suc f) zero i h = absurd (omega (arith, h))
get_part [] (suc f) (suc n) i h = refl
get_part (x ∷ xs) zero zero i h = absurd (omega (arith, h))
get_part (x ∷ xs) zero (suc n) zero h = refl
get_part (x ∷ xs) zero (suc n) (suc i) h =
    let e : 0 + suc i ≡ suc (0 + i) = omega arith in rw e (get_part xs zero n i (omega (arith, h)))
get_part (x ∷ xs) (suc f) n i h =
    let e : suc f + i ≡ suc (f + i) = omega arith in rw e (get_part xs f n i h)

-- ---- bytes of whole cells

of_bytes : (cell : ℤ) → IsCell cell
    → cell_of (char_at cell 3 + 256 * char_at cell 2 + 65536 * char_at cell 1 + 16777216
    * char_at cell 0) ≡ cell
of_bytes cell fits =
    ap cell_of (joined (bits_of cell) (bits_fit cell fits)) ∙ to_z-of_z w32 cell fits
  where
    joined : (n : ℕ) → n < 2 ^ 32 → n / 1 % 256 + 256 * (n / 256 % 256) + 65536 * (n / 65536 % 256)
        + 16777216 * (n / 16777216 % 256) ≡ n
    joined n h = omega arith

-- ---- choices

chosen : (b : Bool) (x y z : ℤ) → b ≡ true → x ≡ z → (if b then x else y) ≡ z
chosen true x y z e h = h
chosen false x y z e h = cc

left_out : (b : Bool) (x y z : ℤ) → b ≡ false → y ≡ z → (if b then x else y) ≡ z
left_out true x y z e h = cc
left_out false x y z e h = h

first_of : (a b c d : Bool) → a ≡ true → (a || b || c || d) ≡ true
first_of true b c d e = refl
first_of false b c d e = cc

none_of : (a b c d : Bool) → a ≡ false → b ≡ false → c ≡ false → d ≡ false
    → (a || b || c || d) ≡ false
none_of a b c d e f g h = rw (e, f, g, h) refl

and_none : (b : Bool) → (b && false) ≡ false
and_none true = refl
and_none false = refl

module _ (cells : List ℤ) (fit : All IsCell cells) (from to n : ℕ)
    (from_in : from + n ≤ length cells) (to_in : to + n ≤ length cells) where
  among_by : (k : ℕ) → 4 * to ≤ k → k < 4 * to + 4 * n → is_among (4 * to) (4 * n) k ≡ true
  among_by k a b = rw (le-leb (4 * to) k a, lt-ltb k (4 * to + 4 * n) b) refl

  byte_in : (i j : ℕ) → to ≤ i → i < to + n → j < 4
      → byte_moved cells (4 * from) (4 * to) (4 * n) (4 * i + j)
      ≡ char_at (get_or cells (from + (i - to)) (pos 0)) (3 - j)
  byte_in i j a b h =
      let k : 4 * from + (4 * i + j - 4 * to) ≡ 4 * (from + (i - to)) + j = omega (arith, a) in
      rw (among_by (4 * i + j) (omega (arith, a)) (omega (arith, b, h)), k)
      (byte_is cells (from + (i - to)) j h)

  inside : (i : ℕ) → to ≤ i → i < to + n
      → cell_moved cells (4 * from) (4 * to) (4 * n) i ≡ get_or cells (from + (i - to)) (pos 0)
  inside i a b =
      let c : ℤ = get_or cells (from + (i - to)) (pos 0) in
      let zero_more : 4 * i ≡ 4 * i + 0 = omega arith in
      let b0 : byte_moved cells (4 * from) (4 * to) (4 * n) (4 * i) ≡ char_at c 3 =
      ap (λ k. byte_moved cells (4 * from) (4 * to) (4 * n) k) zero_more
      ∙ byte_in i 0 a b (omega arith) in
      let b1 = byte_in i 1 a b (omega arith) in
      let b2 = byte_in i 2 a b (omega arith) in
      let b3 = byte_in i 3 a b (omega arith) in
      let t = among_by (4 * i) (omega (arith, a)) (omega (arith, b)) in
      let fits : IsCell c =
      All-get_or IsCell cells (from + (i - to)) (pos 0)
      (omega (arith, a, b, from_in)) fit in
      chosen (is_touched (4 * to) (4 * n) i)
      (cell_of (four_bytes (byte_moved cells (4 * from) (4 * to) (4 * n)) (4 * i)))
      (get_or cells i (pos 0)) c
      (first_of (is_among (4 * to) (4 * n) (4 * i)) (is_among (4 * to) (4 * n) (4 * i + 1))
      (is_among (4 * to) (4 * n) (4 * i + 2)) (is_among (4 * to) (4 * n) (4 * i + 3)) t)
      (ap (λ z. cell_of (z + 256 * byte_moved cells (4 * from) (4 * to) (4 * n) (4 * i + 1) + 65536
      * byte_moved cells (4 * from) (4 * to) (4 * n) (4 * i + 2) + 16777216
      * byte_moved cells (4 * from) (4 * to) (4 * n) (4 * i + 3))) b0
      ∙ ap (λ z. cell_of (char_at c 3 + 256 * z + 65536
      * byte_moved cells (4 * from) (4 * to) (4 * n) (4 * i + 2) + 16777216
      * byte_moved cells (4 * from) (4 * to) (4 * n) (4 * i + 3))) b1
      ∙ ap (λ z. cell_of (char_at c 3 + 256 * char_at c 2 + 65536 * z + 16777216
      * byte_moved cells (4 * from) (4 * to) (4 * n) (4 * i + 3))) b2
      ∙ ap (λ z. cell_of (char_at c 3 + 256 * char_at c 2 + 65536 * char_at c 1 + 16777216 * z)) b3
      ∙ of_bytes c fits)

  not_among : (k : ℕ) → (k < 4 * to) ⊎ (4 * to + 4 * n ≤ k) → is_among (4 * to) (4 * n) k ≡ false
  not_among k (inl h) = let e : nat_le (4 * to) k ≡ false = lt-leb (4 * to) k h in rw e refl
  not_among k (inr h) =
      let e : nat_lt k (4 * to + 4 * n) ≡ false = le-ltb k (4 * to + 4 * n) h in
      ap (λ b. nat_le (4 * to) k && b) e ∙ and_none (nat_le (4 * to) k)

  outside : (i : ℕ) → (i < to) ⊎ (to + n ≤ i)
      → cell_moved cells (4 * from) (4 * to) (4 * n) i ≡ get_or cells i (pos 0)
  outside i h =
      left_out (is_touched (4 * to) (4 * n) i)
      (cell_of (four_bytes (byte_moved cells (4 * from) (4 * to) (4 * n)) (4 * i)))
      (get_or cells i (pos 0)) (get_or cells i (pos 0))
      (none_of (is_among (4 * to) (4 * n) (4 * i)) (is_among (4 * to) (4 * n) (4 * i + 1))
      (is_among (4 * to) (4 * n) (4 * i + 2)) (is_among (4 * to) (4 * n) (4 * i + 3))
      (not_among (4 * i) (low_or 0 h)) (not_among (4 * i + 1) (further 1 (omega arith) h))
      (not_among (4 * i + 2) (further 2 (omega arith) h))
      (not_among (4 * i + 3) (further 3 (omega arith) h))) refl
    where
      low_or : (j : ℕ) → (i < to) ⊎ (to + n ≤ i) → (4 * i < 4 * to) ⊎ (4 * to + 4 * n ≤ 4 * i)
      low_or j (inl a) = inl (omega (arith, a))
      low_or j (inr a) = inr (omega (arith, a))

      further : (j : ℕ) → j < 4 → (i < to) ⊎ (to + n ≤ i)
          → (4 * i + j < 4 * to) ⊎ (4 * to + 4 * n ≤ 4 * i + j)
      further j b (inl a) = inl (omega (arith, a, b))
      further j b (inr a) = inr (omega (arith, a))

  -- so many cells from one place to another
  pub moved_cells : cells_moved cells (4 * from) (4 * to) (4 * n)
      ≡ put (take n (drop from cells)) to cells
  moved_cells =
      let vs : List ℤ = take n (drop from cells) in
      let count : length vs ≡ n =
      length-take-le n (drop from cells) (omega (arith, length-drop from cells, from_in)) in
      let all : length (cells_moved cells (4 * from) (4 * to) (4 * n)) ≡ length cells =
      length-map-range_with_len (cell_moved cells (4 * from) (4 * to) (4 * n)) 0
      (length cells) in
      same_cells (cells_moved cells (4 * from) (4 * to) (4 * n)) (put vs to cells)
      (all ∙ sym (put_length cells vs to (omega (arith, count, to_in))))
      (λ i h. get_or-map-range_with_len (cell_moved cells (4 * from) (4 * to) (4 * n)) 0
      (length cells) i i (pos 0) (omega (arith, h, all)) (omega arith)
      ∙ by_place i (cases_lt i to) (cases_lt i (to + n)) count)
    where
      by_place : (i : ℕ) → (i < to) ⊎ (to ≤ i) → (i < to + n) ⊎ (to + n ≤ i)
          → length (take n (drop from cells)) ≡ n
          → cell_moved cells (4 * from) (4 * to) (4 * n) i
          ≡ get_or (put (take n (drop from cells)) to cells) i (pos 0)
      by_place i (inl a) b count =
          outside i (inl a) ∙ sym (put_before (take n (drop from cells)) cells to i a
          (omega (arith, count, to_in)))
      by_place i (inr a) (inl b) count =
          let k : to + (i - to) ≡ i = omega (arith, a) in
          inside i a b ∙ sym (get_part cells from n (i - to) (omega (arith, a, b)))
          ∙ sym (put_within (take n (drop from cells)) cells to (i - to)
          (omega (arith, a, b, count)) (omega (arith, count, to_in)))
          ∙ ap (λ j. get_or (put (take n (drop from cells)) to cells) j (pos 0)) k
      by_place i (inr a) (inr b) count =
          outside i (inr b) ∙ sym (put_behind (take n (drop from cells)) cells to i
          (omega (arith, b, count)) (omega (arith, count, to_in)))

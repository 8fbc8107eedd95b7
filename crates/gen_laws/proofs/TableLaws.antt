-- Where a case table leads a value: the first pair that has it, or its default.
use Rattle.std.proofs.Common.{◌≡◌, ◌+◌, ◌*◌, ◌/◌, ◌^◌, ◌<◌, ◌⊎◌, inl, inr, ℕ, zero, suc, ℤ, pos}
use Rattle.std.proofs.Common.{negsuc, ◌+ℤ◌, ◌-ℤ◌, ◌≤ℤ◌, ◌<ℤ◌, List, [], ◌∷◌, ◌++◌, Bool, true}
use Rattle.std.proofs.Common.{false, ◌&&◌, ◌||◌, if◌then◌else◌, length, drop, true≢false, refl, sym}
use Rattle.std.proofs.Common.{ap, ◌∙◌, arith, append_assoc, length-append, drop-drop}
use Rattle.std.proofs.lemmas.Int.{ints, by_lt_z}
use Rattle.std.proofs.lemmas.Bool.Decides.{Decides-int_eq}
use Rattle.pawn_cells.specs.Cells.{bits_of, equal, less_eq}
use Rattle.pawn_meaning.specs.Weight.{counted, values_in}
use Rattle.pawn_meaning.specs.Meaning.{in_ranges}
use Rattle.amx_ops.specs.Effects.{paired, case_in, case_of}
use Rattle.gen_sim.proofs.Lists.{take_drop}
use Rattle.gen_sim.specs.Site.{Site}
use Rattle.gen_sim.specs.Items.{Item, size, LieIn}
use Rattle.gen_laws.specs.SwitchCode.{values_from, ranges_table, values_of, table_item}

pub bits_are : (n : ℕ) → n < 2 ^ 31 → bits_of (pos n) ≡ n
bits_are n h = omega (arith, ints, h)

pub chosen : (b : Bool) (x y : ℕ) → b ≡ true → (if b then x else y) ≡ x
chosen true x y e = refl
chosen false x y e = cc

pub left_out : (b : Bool) (x y : ℕ) → b ≡ false → (if b then x else y) ≡ y
left_out true x y e = cc
left_out false x y e = refl

-- a count and so many more, one after another
abbrev further : ℕ → ℕ → ℕ
further m zero = m
further m (suc n) = suc (further m n)

further_is : (m n : ℕ) → further m n ≡ m + n
further_is m zero = omega arith
further_is m (suc n) = omega (arith, further_is m n)

-- ---- the values from one on

length_values : (v : ℤ) (n at : ℕ) → length (values_from v n at) ≡ 2 * n
length_values v zero at = refl
length_values v (suc n) at = omega (arith, length_values (v +ℤ pos 1) n at)

next_above : (lo y : ℤ) → equal lo y ≡ false → lo ≤ℤ y → (lo +ℤ pos 1) ≤ℤ y
next_above lo y e h =
    by_lt_z lo y (λ k. omega (arith, ints, k))
    (λ k. let same : lo ≡ y = omega (arith, ints, h, k) in absurd
    (true≢false (sym ((Decides-int_eq lo y).1 same) ∙ e)))

module _ (y : ℤ) (at m other : ℕ) (more : List ℤ) where
  hit_by : (n : ℕ) (lo : ℤ) → ((lo +ℤ pos 1) ≤ℤ y
      → paired (values_from (lo +ℤ pos 1) n at ++ more) y (further m n) other ≡ bits_of (pos at))
      → lo ≤ℤ y → (b : Bool) → equal lo y ≡ b
      → paired (values_from lo (suc n) at ++ more) y (further m (suc n)) other ≡ bits_of (pos at)
  hit_by n lo next h true e =
      chosen (equal lo y) (bits_of (pos at))
      (paired (values_from (lo +ℤ pos 1) n at ++ more) y (further m n) other) e
  hit_by n lo next h false e =
      left_out (equal lo y) (bits_of (pos at))
      (paired (values_from (lo +ℤ pos 1) n at ++ more) y (further m n) other) e
      ∙ next (next_above lo y e h)

  -- a value among them
  hits : (n : ℕ) (lo : ℤ) → lo ≤ℤ y → y <ℤ (lo +ℤ pos n)
      → paired (values_from lo n at ++ more) y (further m n) other ≡ bits_of (pos at)
  hits zero lo h g = absurd (omega (arith, ints, h, g))
  hits (suc n) lo h g =
      hit_by n lo (λ k. hits n (lo +ℤ pos 1) k (omega (arith, ints, g))) h (equal lo y) refl

  miss_by : (n : ℕ) (lo : ℤ) → paired (values_from (lo +ℤ pos 1) n at ++ more) y (further m n) other
      ≡ paired more y m other
      → ¬ (lo ≡ y) → (b : Bool) → equal lo y ≡ b
      → paired (values_from lo (suc n) at ++ more) y (further m (suc n)) other
      ≡ paired more y m other
  miss_by n lo next h true e = absurd (h ((Decides-int_eq lo y).0 e))
  miss_by n lo next h false e =
      left_out (equal lo y) (bits_of (pos at))
      (paired (values_from (lo +ℤ pos 1) n at ++ more) y (further m n) other) e ∙ next

  -- and another one
  misses : (n : ℕ) (lo : ℤ) → (y <ℤ lo) ⊎ ((lo +ℤ pos n) ≤ℤ y)
      → paired (values_from lo n at ++ more) y (further m n) other ≡ paired more y m other
  misses zero lo h = refl
  misses (suc n) lo (inl h) =
      miss_by n lo (misses n (lo +ℤ pos 1) (inl (omega (arith, ints, h))))
      (λ e. omega (arith, ints, e, h)) (equal lo y) refl
  misses (suc n) lo (inr h) =
      miss_by n lo (misses n (lo +ℤ pos 1) (inr (omega (arith, ints, h))))
      (λ e. omega (arith, ints, e, h)) (equal lo y) refl

-- ---- ranges

below_end : (lo hi y z : ℤ) → (hi -ℤ lo) +ℤ pos 1 ≡ z → lo ≤ℤ y → y ≤ℤ hi
    → y <ℤ (lo +ℤ pos (counted z))
below_end lo hi y (pos n) e h g = omega (arith, ints, e, h, g)
below_end lo hi y (negsuc n) e h g = absurd (omega (arith, ints, e, h, g))

outside : (lo hi y z : ℤ) → (hi -ℤ lo) +ℤ pos 1 ≡ z → (y <ℤ lo) ⊎ (hi <ℤ y)
    → (y <ℤ lo) ⊎ ((lo +ℤ pos (counted z)) ≤ℤ y)
outside lo hi y z e (inl h) = inl h
outside lo hi y (pos n) e (inr h) = inr (omega (arith, ints, e, h))
outside lo hi y (negsuc n) e (inr h) = by_lt_z y lo (λ k. inl k) (λ k. inr (omega (arith, ints, k)))

range_by : (range : ℤ × ℤ) (y : ℤ) (at m other : ℕ) (more : List ℤ) (a b : Bool)
    → less_eq range.0 y ≡ a → less_eq y range.1 ≡ b
    → paired (values_from range.0 (values_in range) at ++ more) y
    (further m (values_in range)) other
    ≡ (if (a && b) then bits_of (pos at) else paired more y m other)
range_by range y at m other more true true e f =
    let low : range.0 ≤ℤ y = omega (arith, ints, e) in
    let high : y ≤ℤ range.1 = omega (arith, ints, f) in
    hits y at m other more (values_in range) range.0 low
    (below_end range.0 range.1 y ((range.1 -ℤ range.0) +ℤ pos 1) refl low high)
range_by range y at m other more true false e f =
    misses y at m other more (values_in range) range.0
    (outside range.0 range.1 y ((range.1 -ℤ range.0) +ℤ pos 1) refl (inr (omega (arith, ints, f))))
range_by range y at m other more false b e f =
    misses y at m other more (values_in range) range.0
    (outside range.0 range.1 y ((range.1 -ℤ range.0) +ℤ pos 1) refl (inl (omega (arith, ints, e))))

either : (a b : Bool) (hit rest miss : ℕ) → rest ≡ (if b then hit else miss)
    → (if a then hit else rest) ≡ (if (a || b) then hit else miss)
either true b hit rest miss e = refl
either false b hit rest miss e = e

-- the ranges' pairs stand first: they lead each value that a range holds, and the others every
-- other one
pub ranges_lead : (ranges : List (ℤ × ℤ)) (y : ℤ) (at m other : ℕ) (more : List ℤ)
    → paired (ranges_table ranges at ++ more) y (m + values_of ranges) other
    ≡ (if in_ranges ranges y then bits_of (pos at) else paired more y m other)
ranges_lead [] y at m other more =
    let none : m + 0 ≡ m = omega arith in ap (λ k. paired more y k other) none
ranges_lead (range ∷ ranges) y at m other more =
    let first = values_from range.0 (values_in range) at in
    let count : m + (values_in range + values_of ranges)
    ≡ further (m + values_of ranges) (values_in range) =
    omega (arith, further_is (m + values_of ranges) (values_in range)) in
    ap (λ (l : List ℤ). paired l y (m + (values_in range + values_of ranges)) other)
    (append_assoc first (ranges_table ranges at) more)
    ∙ ap (λ k. paired (first ++ (ranges_table ranges at ++ more)) y k other) count
    ∙ range_by range y at (m + values_of ranges) other (ranges_table ranges at ++ more)
    (less_eq range.0 y) (less_eq y range.1) refl refl
    ∙ either (less_eq range.0 y && less_eq y range.1) (in_ranges ranges y) (bits_of (pos at))
    (paired (ranges_table ranges at ++ more) y (m + values_of ranges) other) (paired more y m other)
    (ranges_lead ranges y at m other more)

pub length_ranges : (ranges : List (ℤ × ℤ)) (at : ℕ)
    → length (ranges_table ranges at) ≡ 2 * values_of ranges
length_ranges [] at = refl
length_ranges (range ∷ ranges) at =
    omega (
      arith,
      length-append (values_from range.0 (values_in range) at) (ranges_table ranges at),
      length_values range.0 (values_in range) at,
      length_ranges ranges at,
    )

-- ---- a table in a file

pub record Led (x : Site) (p count other : ℕ) (table : List ℤ) (y : ℤ) : Type 0 where
  pub more : List ℤ
  pub is : case_of x.amx p y ≡ paired (table ++ more) y count other

pub table_leads : (x : Site) (p count other : ℕ) (table : List ℤ) (rest : List Item) (y : ℤ)
    → LieIn x p (table_item count other table ∷ rest)
    → count < 2 ^ 31 → other < 2 ^ 31 → Led x p count other table y
table_leads x p count other table rest y l low small =
    let n = size (table_item count other table) in
    let cells = drop (p / 4) x.amx.code in
    let split = sym (take_drop n cells) ∙ ap (λ (cs : List ℤ). cs ++ drop n cells) l.1 in
    let from : drop (p / 4 + 1) x.amx.code ≡ pos count ∷ pos other ∷ (table ++ drop n cells) =
    sym (drop-drop 1 (p / 4) x.amx.code) ∙ ap (λ (cs : List ℤ). drop 1 cs) split in
    record {
      more = drop n cells;
      is =
          ap (λ (cs : List ℤ). case_in cs y) from
          ∙ ap (λ k. paired (table ++ drop n cells) y k (bits_of (pos other))) (bits_are count low)
          ∙ ap (λ k. paired (table ++ drop n cells) y count k) (bits_are other small);
    }

-- How many groups a number needs.
use Rattle.std.proofs.Common.{◌≡◌, ◌+◌, ◌-◌, ◌*◌, ◌/◌, ◌%◌, ◌^◌, ◌<◌, ◌≤◌, ℕ, zero, suc, List, []}
use Rattle.std.proofs.Common.{◌∷◌, length, ℤ, pos, negsuc, ◌-ℤ◌, FitsSigned, w32, to_z, of_z}
use Rattle.std.proofs.Common.{to_z-of_z, drop, take, length-drop, slice_index, subst, sym, ap, ◌∙◌}
use Rattle.std.proofs.Common.{arith}
use Rattle.std.proofs.lemmas.Int.{ints, int_wrap_fits}
use Rattle.std.proofs.lemmas.List.{take_rest}
use Rattle.std.specs.Int.{int_wrap}
use Rattle.pawn_cells.specs.Cells.{IsCell, bits_of, wrap}
use Rattle.amx_compact.specs.Range.{magnitude_of, InGroups}
use Rattle.amx_compact.specs.Spelled.{group_sum, sign, signed_sum, Spelled, Shortest}

-- a number that doesn't fit so many groups needs more
pub needs_two : (cell : ℤ) (fewer : ℕ) → 64 ≤ magnitude_of cell → InGroups fewer cell → 2 ≤ fewer
needs_two cell zero h k = absurd k
needs_two cell (suc zero) h k = absurd (omega arith)
needs_two cell (suc (suc n)) h k = omega arith

pub needs_three : (cell : ℤ) (fewer : ℕ) → 64 * 128 ≤ magnitude_of cell → InGroups fewer cell
    → 3 ≤ fewer
needs_three cell zero h k = absurd k
needs_three cell (suc zero) h k = absurd (omega arith)
needs_three cell (suc (suc zero)) h k = absurd (omega arith)
needs_three cell (suc (suc (suc n))) h k = omega arith

pub needs_four : (cell : ℤ) (fewer : ℕ) → 64 * 128 ^ 2 ≤ magnitude_of cell → InGroups fewer cell
    → 4 ≤ fewer
needs_four cell zero h k = absurd k
needs_four cell (suc zero) h k = absurd (omega arith)
needs_four cell (suc (suc zero)) h k = absurd (omega arith)
needs_four cell (suc (suc (suc zero))) h k = absurd (omega arith)
needs_four cell (suc (suc (suc (suc n)))) h k = omega arith

pub needs_five : (cell : ℤ) (fewer : ℕ) → 64 * 128 ^ 3 ≤ magnitude_of cell → InGroups fewer cell
    → 5 ≤ fewer
needs_five cell zero h k = absurd k
needs_five cell (suc zero) h k = absurd (omega arith)
needs_five cell (suc (suc zero)) h k = absurd (omega arith)
needs_five cell (suc (suc (suc zero))) h k = absurd (omega arith)
needs_five cell (suc (suc (suc (suc zero)))) h k = absurd (omega arith)
needs_five cell (suc (suc (suc (suc (suc n))))) h k = omega arith

in_range : (cell : ℤ) (m n h : ℕ) → h ≤ 2 ^ 31 → m < n + h → n ≤ m + h
    → cell ≡ wrap (pos m -ℤ pos n) → magnitude_of cell < h
in_range (pos k) m n h l a b e =
    let fits : FitsSigned w32 (pos m -ℤ pos n) = omega (arith, ints) in
    let same : pos k ≡ pos m -ℤ pos n = e ∙ int_wrap_fits w32 (pos m -ℤ pos n) fits in
    omega (arith, ints, same)
in_range (negsuc k) m n h l a b e =
    let fits : FitsSigned w32 (pos m -ℤ pos n) = omega (arith, ints) in
    let same : negsuc k ≡ pos m -ℤ pos n = e ∙ int_wrap_fits w32 (pos m -ℤ pos n) fits in
    omega (arith, ints, same)

-- a cell that so many bytes spell is in their range
pub spelled_in : (cell : ℤ) (bytes : List ℕ) → Spelled cell bytes → length bytes < 5
    → InGroups (length bytes) cell
spelled_in cell [] s h = absurd s.ends
spelled_in cell (a ∷ []) s h =
    let small = s.ends in
    in_range cell (group_sum (a ∷ [])) (sign (a ∷ []) * 128 ^ 1) 64 (omega arith) (omega arith)
    (omega arith) s.sum
spelled_in cell (a ∷ b ∷ []) s h =
    let small = s.ends in
    in_range cell (group_sum (a ∷ b ∷ [])) (sign (a ∷ b ∷ []) * 128 ^ 2) (64 * 128) (omega arith)
    (omega arith) (omega arith) s.sum
spelled_in cell (a ∷ b ∷ c ∷ []) s h =
    let small = s.ends in
    in_range cell (group_sum (a ∷ b ∷ c ∷ [])) (sign (a ∷ b ∷ c ∷ []) * 128 ^ 3) (64 * 128 ^ 2)
    (omega arith) (omega arith) (omega arith) s.sum
spelled_in cell (a ∷ b ∷ c ∷ d ∷ []) s h =
    let small = s.ends in
    in_range cell (group_sum (a ∷ b ∷ c ∷ d ∷ [])) (sign (a ∷ b ∷ c ∷ d ∷ []) * 128 ^ 4)
    (64 * 128 ^ 3) (omega arith) (omega arith) (omega arith) s.sum
spelled_in cell (a ∷ b ∷ c ∷ d ∷ e ∷ rest) s h = absurd (omega arith)

-- the five bytes from which a cell is written
abbrev pub five_bytes : ℕ → List ℕ
five_bytes bits =
    (128 + bits / 2 ^ 28 % 128) ∷ (128 + bits / 2 ^ 21 % 128) ∷ (128 + bits / 2 ^ 14 % 128)
    ∷ (128 + bits / 2 ^ 7 % 128) ∷ bits % 128 ∷ []

-- so many of them, from the last one on
abbrev pub last_bytes : ℕ → ℕ → List ℕ
last_bytes count bits = drop (5 - count) (five_bytes bits)

one_sum : (cell : ℤ) → IsCell cell → magnitude_of cell < 64
    → cell ≡ signed_sum (last_bytes 1 (bits_of cell))
one_sum (pos k) f h = omega (arith, ints)
one_sum (negsuc k) f h = omega (arith, ints)

two_sum : (cell : ℤ) → IsCell cell → magnitude_of cell < 64 * 128
    → cell ≡ signed_sum (last_bytes 2 (bits_of cell))
two_sum (pos k) f h = omega (arith, ints)
two_sum (negsuc k) f h = omega (arith, ints)

three_sum : (cell : ℤ) → IsCell cell → magnitude_of cell < 64 * 128 ^ 2
    → cell ≡ signed_sum (last_bytes 3 (bits_of cell))
three_sum (pos k) f h = omega (arith, ints)
three_sum (negsuc k) f h = omega (arith, ints)

four_sum : (cell : ℤ) → IsCell cell → magnitude_of cell < 64 * 128 ^ 3
    → cell ≡ signed_sum (last_bytes 4 (bits_of cell))
four_sum (pos k) f h = omega (arith, ints)
four_sum (negsuc k) f h = omega (arith, ints)

bits_below : (cell : ℤ) → IsCell cell → bits_of cell < 2 ^ 32
bits_below (pos k) f = omega (arith, f.sfits)
bits_below (negsuc k) f = omega (arith, f.sfits)

wrap-bits : (cell : ℤ) → IsCell cell → wrap (pos (bits_of cell)) ≡ cell
unfolding int_wrap
wrap-bits cell f = let below = bits_below cell f in ap (to_z w32) (omega arith) ∙ to_z-of_z f

five_sum : (bits : ℕ) → bits < 2 ^ 32 → pos bits ≡ signed_sum (last_bytes 5 bits)
five_sum bits h = omega (arith, ints)

spells : (cell : ℤ) (bytes : List ℕ) → IsCell cell → cell ≡ signed_sum bytes
    → cell ≡ wrap (signed_sum bytes)
spells cell bytes f e = sym (int_wrap_fits w32 cell f) ∙ ap wrap e

-- as many of them as a cell needs spell it
spelled_by : (cell : ℤ) (count : ℕ) → IsCell cell → InGroups count cell → count ≤ 5
    → Spelled cell (last_bytes count (bits_of cell))
spelled_by cell zero f h l = absurd h
spelled_by cell (suc zero) f h l = record {
  ends = omega arith;
  short = omega arith;
  sum = spells cell (last_bytes 1 (bits_of cell)) f (one_sum cell f h);
}
spelled_by cell (suc (suc zero)) f h l = record {
  ends = (omega arith, omega arith, omega arith);
  short = omega arith;
  sum = spells cell (last_bytes 2 (bits_of cell)) f (two_sum cell f h);
}
spelled_by cell (suc (suc (suc zero))) f h l = record {
  ends = (omega arith, omega arith, (omega arith, omega arith, omega arith));
  short = omega arith;
  sum = spells cell (last_bytes 3 (bits_of cell)) f (three_sum cell f h);
}
spelled_by cell (suc (suc (suc (suc zero)))) f h l = record {
  ends = (
    omega arith,
    omega arith,
    (
      omega arith,
      omega arith,
      (omega arith, omega arith, omega arith),
    ),
  );
  short = omega arith;
  sum = spells cell (last_bytes 4 (bits_of cell)) f (four_sum cell f h);
}
spelled_by cell (suc (suc (suc (suc (suc zero))))) f h l = record {
  ends = (
    omega arith,
    omega arith,
    (
      omega arith,
      omega arith,
      (omega arith, omega arith, (omega arith, omega arith, omega arith)),
    ),
  );
  short = omega arith;
  sum = sym (wrap-bits cell f) ∙ ap wrap (five_sum (bits_of cell) (bits_below cell f));
}
spelled_by cell (suc (suc (suc (suc (suc (suc n)))))) f h l = absurd (omega arith)

first_below : (count bits : ℕ) → bits < 2 ^ 32 → count ≡ 5
    → slice_index (last_bytes count bits) 0 % 128 < 16
first_below count bits h e =
    subst (λ n. slice_index (last_bytes n bits) 0 % 128 < 16) (sym e) (omega arith)

length-last_bytes : (count bits : ℕ) → count ≤ 5 → length (last_bytes count bits) ≡ count
length-last_bytes count bits h = omega (arith, length-drop (5 - count) (five_bytes bits))

-- no spelling has fewer
shortest_by : (cell : ℤ) (count : ℕ) → IsCell cell → InGroups count cell
    → ((fewer : ℕ) → InGroups fewer cell → count ≤ fewer) → count ≤ 5
    → Shortest cell (last_bytes count (bits_of cell))
shortest_by cell count f h least l =
    let long = length-last_bytes count (bits_of cell) l in
    let fewer : (others : List ℕ) → Spelled cell others → length others < 5
    → count ≤ length others =
    λ others s k. least (length others) (spelled_in cell others s k) in
    record {
      spelled = spelled_by cell count f h l;
      fewest = λ others s. grind (arith, long, fewer others s);
      filled = λ e. first_below count (bits_of cell) (bits_below cell f) (sym long ∙ e);
    }

-- what the code has: the cell goes through its bits, and the bytes are a part of five
pub written : (cell : ℤ) (count bits a b c d e : ℕ) → IsCell cell
    → bits ≡ bits_of (to_z w32 (of_z w32 cell)) → InGroups count (to_z w32 (of_z w32 cell))
    → ((fewer : ℕ) → InGroups fewer (to_z w32 (of_z w32 cell)) → count ≤ fewer) → count ≤ 5
    → a ≡ bits / 2 ^ 28 % 128 → b ≡ bits / 2 ^ 21 % 128 → c ≡ bits / 2 ^ 14 % 128
    → d ≡ bits / 2 ^ 7 % 128 → e ≡ bits % 128
    → Shortest cell (take (5 - (5 - count))
    (drop (5 - count) ((128 + a) ∷ (128 + b) ∷ (128 + c) ∷ (128 + d) ∷ e ∷ [])))
written cell count bits a b c d e f is h least l p q r s t =
    let same : to_z w32 (of_z w32 cell) ≡ cell = to_z-of_z f in
    let groups : (128 + a) ∷ (128 + b) ∷ (128 + c) ∷ (128 + d) ∷ e ∷ [] ≡ five_bytes (bits_of cell)
    = let whole : bits ≡ bits_of cell = is ∙ ap bits_of same in cc in
    let found =
    shortest_by cell count f (subst (InGroups count) same h)
    (λ fewer k. least fewer (subst (InGroups fewer) (sym same) k)) l in
    subst (Shortest cell) (sym (ap (λ list. take (5 - (5 - count)) (drop (5 - count) list)) groups
    ∙ take_rest (five_bytes (bits_of cell)) (5 - count))) found

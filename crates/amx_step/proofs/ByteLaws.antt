-- Bytes that are copied and compared, as the step's definition has them.
use Rattle.std.proofs.Common.{◌≡◌, ◌≢◌, ◌+◌, ◌-◌, ◌*◌, ◌/◌, ◌<◌, ◌≤◌, ℕ, inl, inr, zero, suc}
use Rattle.std.proofs.Common.{ℤ, pos, negsuc, List, Bool, true, false, ◌&&◌, ◌||◌, cond}
use Rattle.std.proofs.Common.{length, get_or, refl, sym, ap, ◌∙◌, arith, subst, w32, FitsSigned}
use Rattle.std.proofs.Common.{nat_lt, nat_le}
use Rattle.std.proofs.lemmas.Bool.{and_parts, and_from, or_cases, cases_eq, cases_Bool, leb-true}
use Rattle.std.proofs.lemmas.Bool.{ltb-true, le-leb, lt-ltb, le-ltb, both_ways, false≢true}
use Rattle.std.proofs.lemmas.List.FromFn.{length-map-range_with_len, get_or-map-range_with_len}
use Rattle.pawn_cells.specs.Cells.{cell_of}
use Rattle.amx_block.specs.Contents.{Contents}
use Rattle.amx_block.specs.Copied.{IsCopied}
use Rattle.amx_block.proofs.ForCallers.{cell_of_bytes}
use Rattle.amx_ops.specs.Access.{byte_at, bytes_at, is_among, byte_moved, cell_moved, cells_moved}
use Rattle.amx_ops.specs.Access.{order_of}
use Rattle.amx_ops.proofs.ByteLaws.{same_cells}
use Rattle.amx_step.specs.Machine.{Machine}

-- a cell that is made of four bytes
abbrev made : (a b c d : ℕ) → ℤ
made a b c d = cell_of (a + 256 * b + 65536 * c + 16777216 * d)

-- ---- bytes that are moved

among : (a n k : ℕ) → is_among a n k ≡ true → (a ≤ k) × (k < a + n)
among a n k e =
    let b = and_parts (nat_le a k) (nat_lt k (a + n)) e in
    (leb-true a k b.0, ltb-true k (a + n) b.1)

not_among : (a n k : ℕ) → is_among a n k ≡ false → a ≤ k → k < a + n → ⊥
not_among a n k e low high =
    both_ways (is_among a n k) e (and_from (nat_le a k) (nat_lt k (a + n)) (le-leb a k low)
    (lt-ltb k (a + n) high))

or_false : (x y : Bool) → (x || y) ≡ false → (x ≡ false) × (y ≡ false)
or_false true y e = absurd (false≢true (sym e))
or_false false y e = (refl, e)

abbrev touches : (to n i : ℕ) → Bool
touches to n i =
    is_among to n (4 * i) || is_among to n (4 * i + 1) || is_among to n (4 * i + 2)
    || is_among to n (4 * i + 3)

-- a byte of the cell that is put
touched : (to n i : ℕ) → touches to n i ≡ true → (k : ℕ) × (to ≤ k) × (k < to + n) × (k / 4 ≡ i)
touched to n i e =
    let a = is_among to n (4 * i) in
    let b = is_among to n (4 * i + 1) in
    let c = is_among to n (4 * i + 2) in
    elim (or_cases (a || b || c) (is_among to n (4 * i + 3)) e) [
      | inr h ↦ let r = among to n (4 * i + 3) h in (4 * i + 3, r.0, r.1, omega arith)
      | inl t ↦ elim (or_cases (a || b) c t) [
        | inr h ↦ let r = among to n (4 * i + 2) h in (4 * i + 2, r.0, r.1, omega arith)
        | inl u ↦ elim (or_cases a b u) [
          | inl h ↦ let r = among to n (4 * i) h in (4 * i, r.0, r.1, omega arith)
          | inr h ↦ let r = among to n (4 * i + 1) h in (4 * i + 1, r.0, r.1, omega arith)
        ]
      ]
    ]

untouched : (to n i : ℕ) → touches to n i ≡ false → (k : ℕ) → to ≤ k → k < to + n → k / 4 ≢ i
untouched to n i e k low high same =
    let d =
    or_false (is_among to n (4 * i) || is_among to n (4 * i + 1)
    || is_among to n (4 * i + 2)) (is_among to n (4 * i + 3)) e in
    let b =
    or_false (is_among to n (4 * i) || is_among to n (4 * i + 1))
    (is_among to n (4 * i + 2)) d.0 in
    let a = or_false (is_among to n (4 * i)) (is_among to n (4 * i + 1)) b.0 in
    elim (cases_eq k (4 * i)) [
      | inl h ↦ not_among to n (4 * i) a.0 (omega (arith, low, h)) (omega (arith, high, h))
      | inr p ↦ elim (cases_eq k (4 * i + 1)) [
        | inl h ↦ not_among to n (4 * i + 1) a.1 (omega (arith, low, h)) (omega (arith, high, h))
        | inr q ↦ elim (cases_eq k (4 * i + 2)) [
          | inl h ↦ not_among to n (4 * i + 2) b.1 (omega (arith, low, h)) (omega (arith, high, h))
          | inr r ↦ not_among to n (4 * i + 3) d.1 (omega (arith, low, same, p, q, r))
              (omega (arith, high, same, p, q, r))
        ]
      ]
    ]

module _ (from to n : ℕ) (old new : Contents) (c : IsCopied from to 0 n old new) where
  byte_new : (k : ℕ) → byte_moved old.memory from to n k ≡ byte_at new.memory k
  byte_new k =
      let z : to + 0 ≡ to = omega arith in
      sym (c.bytes k ∙ ap (λ low. cond (nat_le low k && nat_lt k (to + n))
      (byte_at old.memory (from + (k - to))) (byte_at old.memory k)) z)

  cell_by : (i : ℕ) (b : Bool) → touches to n i ≡ b
      → get_or new.memory i (pos 0)
      ≡ cond b (made (byte_moved old.memory from to n (4 * i))
      (byte_moved old.memory from to n (4 * i + 1))
      (byte_moved old.memory from to n (4 * i + 2))
      (byte_moved old.memory from to n (4 * i + 3)))
      (get_or old.memory i (pos 0))
  cell_by i true e =
      let t = touched to n i e in
      let fits : FitsSigned w32 (get_or new.memory i (pos 0)) =
      subst (λ j. FitsSigned w32 (get_or new.memory j (pos 0))) t.3
      (c.fits t.0 (omega (arith, t.1)) t.2) in
      sym (ap (λ b. made b (byte_moved old.memory from to n (4 * i + 1))
      (byte_moved old.memory from to n (4 * i + 2))
      (byte_moved old.memory from to n (4 * i + 3))) (byte_new (4 * i))
      ∙ ap (λ b. made (byte_at new.memory (4 * i)) b (byte_moved old.memory from to n (4 * i + 2))
      (byte_moved old.memory from to n (4 * i + 3))) (byte_new (4 * i + 1))
      ∙ ap (λ b. made (byte_at new.memory (4 * i)) (byte_at new.memory (4 * i + 1)) b
      (byte_moved old.memory from to n (4 * i + 3))) (byte_new (4 * i + 2))
      ∙ ap (λ b. made (byte_at new.memory (4 * i)) (byte_at new.memory (4 * i + 1))
      (byte_at new.memory (4 * i + 2)) b) (byte_new (4 * i + 3))
      ∙ cell_of_bytes new.memory i fits)
  cell_by i false e = c.others i (λ k low high. untouched to n i e k (omega (arith, low)) high)

  -- what was copied byte by byte is what the definition of a move makes
  pub moved_is : new.memory ≡ cells_moved old.memory from to n
  moved_is =
      same_cells new.memory (cells_moved old.memory from to n)
      (c.count ∙ sym (length-map-range_with_len (cell_moved old.memory from to n) 0
      (length old.memory)))
      (λ i h. cell_by i (touches to n i) refl
      ∙ sym (get_or-map-range_with_len (cell_moved old.memory from to n) 0
      (length old.memory) i i (pos 0) (omega (arith, h, c.count)) (omega arith)))

none_among : (a k : ℕ) → is_among a 0 k ≡ false
none_among a k =
    elim (cases_Bool (is_among a 0 k))
    [ inr e ↦ e | inl e ↦ let r = among a 0 k e in absurd (omega (arith, r.0, r.1)) ]

-- no bytes change nothing
pub moved_none : (cells : List ℤ) (from to : ℕ) → cells_moved cells from to 0 ≡ cells
moved_none cells from to =
    same_cells (cells_moved cells from to 0) cells
    (length-map-range_with_len (cell_moved cells from to 0) 0 (length cells))
    (λ i h. get_or-map-range_with_len (cell_moved cells from to 0) 0 (length cells) i i (pos 0)
    (omega (arith, h, length-map-range_with_len (cell_moved cells from to 0) 0 (length cells)))
    (omega arith) ∙ still i)
  where
    still : (i : ℕ) → cell_moved cells from to 0 i ≡ get_or cells i (pos 0)
    still i =
        rw (
          none_among to (4 * i),
          none_among to (4 * i + 1),
          none_among to (4 * i + 2),
          none_among to (4 * i + 3),
        ) refl

-- ---- the order of bytes

order_first : (cells : List ℤ) (at to n : ℕ)
    → order_of (bytes_at cells at (suc n)) (bytes_at cells to (suc n))
    ≡ cond (nat_lt (byte_at cells at) (byte_at cells to)) (negsuc 0)
    (cond (nat_lt (byte_at cells to) (byte_at cells at)) (pos 1)
    (order_of (bytes_at cells (at + 1) n) (bytes_at cells (to + 1) n)))
order_first cells at to n = refl

module _ (cells : List ℤ) (at to count done : ℕ) (whole : ℤ) (less : done < count)
    (so_far : order_of (bytes_at cells (at + done) (count - done))
    (bytes_at cells (to + done) (count - done)) ≡ whole) where
  abbrev rest : ℤ
  rest =
      order_of (bytes_at cells (at + (done + 1)) (count - (done + 1)))
      (bytes_at cells (to + (done + 1)) (count - (done + 1)))

  first_bytes : cond (nat_lt (byte_at cells (at + done)) (byte_at cells (to + done))) (negsuc 0)
      (cond (nat_lt (byte_at cells (to + done)) (byte_at cells (at + done))) (pos 1) rest) ≡ whole
  first_bytes =
      let left : count - done ≡ suc (count - (done + 1)) = omega (arith, less) in
      let a : at + done + 1 ≡ at + (done + 1) = omega arith in
      let b : to + done + 1 ≡ to + (done + 1) = omega arith in
      let m = count - (done + 1) in
      let test =
      λ (r : ℤ). cond (nat_lt (byte_at cells (at + done)) (byte_at cells (to + done)))
      (negsuc 0) (cond (nat_lt (byte_at cells (to + done)) (byte_at cells (at + done)))
      (pos 1) r) in
      ap test (ap (λ p. order_of (bytes_at cells p m) (bytes_at cells (to + (done + 1)) m)) (sym a)
      ∙ ap (λ p. order_of (bytes_at cells (at + done + 1) m) (bytes_at cells p m)) (sym b))
      ∙ sym (order_first cells (at + done) (to + done) m)
      ∙ sym (ap (λ n. order_of (bytes_at cells (at + done) n) (bytes_at cells (to + done) n)) left)
      ∙ so_far

  pub order_less : (x y : ℕ) → x ≡ byte_at cells (at + done) → y ≡ byte_at cells (to + done) → x < y
      → negsuc 0 ≡ whole
  order_less x y e f h =
      rw (lt-ltb (byte_at cells (at + done)) (byte_at cells (to + done))
      (subst (λ z. z < byte_at cells (to + done)) e (subst (λ z. x < z) f h))) at first_bytes

  pub order_more : (x y : ℕ) → x ≡ byte_at cells (at + done) → y ≡ byte_at cells (to + done) → y ≤ x
      → y < x → pos 1 ≡ whole
  order_more x y e f l h =
      let low : byte_at cells (to + done) ≤ byte_at cells (at + done) = omega (arith, e, f, l) in
      let high : byte_at cells (to + done) < byte_at cells (at + done) = omega (arith, e, f, h) in
      rw (
        le-ltb (byte_at cells (at + done)) (byte_at cells (to + done)) low,
        lt-ltb (byte_at cells (to + done)) (byte_at cells (at + done)) high,
      ) at first_bytes

  pub order_next : (x y : ℕ) → x ≡ byte_at cells (at + done) → y ≡ byte_at cells (to + done) → y ≤ x
      → x ≤ y → rest ≡ whole
  order_next x y e f l h =
      let low : byte_at cells (to + done) ≤ byte_at cells (at + done) = omega (arith, e, f, l) in
      let high : byte_at cells (at + done) ≤ byte_at cells (to + done) = omega (arith, e, f, h) in
      rw (
        le-ltb (byte_at cells (at + done)) (byte_at cells (to + done)) low,
        le-ltb (byte_at cells (to + done)) (byte_at cells (at + done)) high,
      ) at first_bytes

-- bytes in front that are the same
pub order_from : (cells : List ℤ) (at to count start : ℕ) → start ≤ count
    → ((k : ℕ) → k < start → byte_at cells (at + k) ≡ byte_at cells (to + k))
    → order_of (bytes_at cells (at + start) (count - start))
    (bytes_at cells (to + start) (count - start))
    ≡ order_of (bytes_at cells at count) (bytes_at cells to count)
order_from cells at to count zero h same =
    let first : at + 0 ≡ at = omega arith in
    let second : to + 0 ≡ to = omega arith in
    let all : count - 0 ≡ count = omega arith in
    ap (λ n. order_of (bytes_at cells (at + 0) n) (bytes_at cells (to + 0) n)) all
    ∙ ap (λ a. order_of (bytes_at cells a count) (bytes_at cells (to + 0) count)) first
    ∙ ap (λ b. order_of (bytes_at cells at count) (bytes_at cells b count)) second
order_from cells at to count (suc start) h same =
    let one : suc start ≡ start + 1 = omega arith in
    let here = same start (omega arith) in
    ap (λ n. order_of (bytes_at cells (at + n) (count - n))
    (bytes_at cells (to + n) (count - n))) one ∙ order_next cells at to count start (order_of (bytes_at cells at count)
    (bytes_at cells to count)) (omega (arith, h))
    (order_from cells at to count start (omega (arith, h)) (λ k l. same k (omega (arith, l))))
    (byte_at cells (at + start)) (byte_at cells (to + start)) refl refl (omega (arith, here))
    (omega (arith, here))

pub order_over : (cells : List ℤ) (at to count done : ℕ) (whole : ℤ) → count ≤ done
    → order_of (bytes_at cells (at + done) (count - done))
    (bytes_at cells (to + done) (count - done)) ≡ whole → pos 0 ≡ whole
order_over cells at to count done whole h so_far =
    let none : count - done ≡ 0 = omega (arith, h) in
    sym (ap (λ n. order_of (bytes_at cells (at + done) n) (bytes_at cells (to + done) n)) none)
    ∙ so_far

-- a byte read of one machine, where another is the same
pub read_as : {m n : Machine} {x : ℕ} (at : ℕ) → x ≡ byte_at m.state.cells at → m ≡ n
    → x ≡ byte_at n.state.cells at
read_as at e same = e ∙ ap (λ (it : Machine). byte_at it.state.cells at) same

-- A copy byte by byte, upwards and downwards.
use Rattle.std.proofs.Common.{◌≡◌, ◌≢◌, ◌+◌, ◌-◌, ◌*◌, ◌/◌, ◌%◌, ◌<◌, ◌≤◌, ◌⊎◌, inl, inr, ℕ, zero}
use Rattle.std.proofs.Common.{suc, ℤ, pos, false, List, length, get_or, refl, sym, ap, ◌∙◌, arith}
use Rattle.std.proofs.Common.{get_or-set_same, get_or-set_other, length-set, take, subst, w32}
use Rattle.std.proofs.Common.{FitsSigned}
use Rattle.std.specs.Prelude.{nat_le, slice_set}
use Rattle.std.proofs.lemmas.List.{get_or-take, take-set-le, take-take}
use Rattle.std.proofs.lemmas.Bool.{le-leb, lt-ltb}
use Rattle.std.proofs.lemmas.Bool.Decides.{leb_tells}
use Rattle.pawn_cells.specs.Cells.{char_at}
use Rattle.amx_block.specs.Contents.{Contents, cell_at, with_cell, with_byte}
use Rattle.amx_ops.specs.Access.{byte_at}
use Rattle.amx_block.specs.Copied.{copied_byte, IsCopied, IsRun, IsRunFrom}

pub same_or_not : (a b : ℕ) → (a ≡ b) ⊎ (a ≢ b)
same_or_not zero zero = inl refl
same_or_not zero (suc b) = inr (λ e. omega (arith, e))
same_or_not (suc a) zero = inr (λ e. omega (arith, e))
same_or_not (suc a) (suc b) =
    elim (same_or_not a b) [ inl e ↦ inl (ap suc e) | inr n ↦ inr (λ e. n (omega (arith, e))) ]

-- the other bytes, where one cell is written
pub other_bytes : (cells new : List ℤ) (at k : ℕ) (v : ℤ) → new ≡ with_cell cells at v
    → at / 4 < length cells
    → ((j : ℕ) → j < 4 → j ≢ 3 - at % 4 → char_at v j ≡ char_at (cell_at cells at) j) → k ≢ at
    → byte_at new k ≡ byte_at cells k
other_bytes cells new at k v e h same ne =
    ap (λ cs. byte_at cs k) e ∙
    elim (same_or_not (at / 4) (k / 4)) [
      | inl s ↦
          ap (λ i. char_at (get_or (slice_set cells (at / 4) v) i (pos 0)) (3 - k % 4)) (sym s)
          ∙ ap (λ c. char_at c (3 - k % 4)) (get_or-set_same cells (at / 4) v (pos 0) h)
          ∙ same (3 - k % 4) (omega arith) (λ q. ne (omega (arith, q, s)))
          ∙ ap (λ i. char_at (get_or cells i (pos 0)) (3 - k % 4)) s
      | inr n ↦ ap (λ c. char_at c (3 - k % 4))
          (get_or-set_other cells (at / 4) (k / 4) v (pos 0) (λ e. n (sym e)))
    ]

-- ---- whole cells

pub others_after : (now new : List ℤ) (at i : ℕ) (v : ℤ) → new ≡ with_cell now at v → at / 4 ≢ i
    → get_or new i (pos 0) ≡ get_or now i (pos 0)
others_after now new at i v e ne =
    ap (λ cs. get_or cs i (pos 0)) e
    ∙ get_or-set_other now (at / 4) i v (pos 0) (λ same. ne (sym same))

pub fits_after : (now new : List ℤ) (at k : ℕ) (v : ℤ) → new ≡ with_cell now at v
    → FitsSigned w32 (cell_at new at) → (k ≢ at → FitsSigned w32 (cell_at now k))
    → FitsSigned w32 (cell_at new k)
fits_after now new at k v e fits before = elim (same_or_not (at / 4) (k / 4)) [
  | inl same ↦ subst (λ i. FitsSigned w32 (get_or new i (pos 0))) same fits
  | inr ne ↦ subst (FitsSigned w32) (sym (others_after now new at (k / 4) v e ne))
      (before (λ is. ne (sym (ap (λ n. n / 4) is))))
]

no : (a b : ℕ) → b < a → nat_le a b ≡ false
no a b h = elim (leb_tells a b) [ inl t ↦ absurd (omega (arith, t.1, h)) | inr t ↦ t.0 ]

module _ (old : List ℤ) (from to : ℕ) where
  inside : (low high k : ℕ) → to + low ≤ k → k < to + high
      → copied_byte old from to low high k ≡ byte_at old (from + (k - to))
  inside low high k h l = rw (le-leb (to + low) k h, lt-ltb k (to + high) l) refl

  under : (low high k : ℕ) → k < to + low → copied_byte old from to low high k ≡ byte_at old k
  under low high k h = rw (no (to + low) k h) refl

  over : (low high k : ℕ) → to + low ≤ k → to + high ≤ k
      → copied_byte old from to low high k ≡ byte_at old k
  over low high k h l = rw (le-leb (to + low) k h, no (suc k) (to + high) (omega (arith, l))) refl

  -- a range that grew by one byte, which is not k
  grown : (low high low' high' k : ℕ) → low' ≤ low → high ≤ high' → (k < to + low → k < to + low')
      → (to + high ≤ k → to + high' ≤ k)
      → copied_byte old from to low high k ≡ copied_byte old from to low' high' k
  grown low high low' high' k a b c d =
      elim (leb_tells (to + low) k) [
        | inl h ↦ elim (leb_tells (to + high) k) [
          | inl l ↦ over low high k h.1 l.1
              ∙ sym (over low' high' k (omega (arith, a, h.1)) (d l.1))
          | inr l ↦ inside low high k h.1 l.1
              ∙ sym (inside low' high' k (omega (arith, a, h.1)) (omega (arith, b, l.1)))
        ]
        | inr h ↦ under low high k h.1 ∙ sym (under low' high' k (c h.1))
      ]

  module _ (now new : List ℤ) (b : ℕ) where
    pub up : (i : ℕ) → to ≤ from → ((k : ℕ) → byte_at now k ≡ copied_byte old from to 0 i k)
        → b ≡ byte_at now (from + i) → byte_at new (to + i) ≡ b
        → ((k : ℕ) → k ≢ to + i → byte_at new k ≡ byte_at now k) → (k : ℕ)
        → byte_at new k ≡ copied_byte old from to 0 (i + 1) k
    up i h so_far read same others k = elim (same_or_not k (to + i)) [
      | inl e ↦ ap (byte_at new) e ∙ same ∙ read ∙ so_far (from + i)
          ∙ over 0 i (from + i) (omega (arith, h)) (omega (arith, h))
          ∙ ap (byte_at old) (omega (arith, e))
          ∙ sym (inside 0 (i + 1) k (omega (arith, e)) (omega (arith, e)))
      | inr ne ↦ others k ne ∙ so_far k
          ∙ grown 0 i 0 (i + 1) k (omega arith) (omega arith) (λ l. l) (λ l. above i k l ne)
    ] where
      above : (i k : ℕ) → to + i ≤ k → k ≢ to + i → to + (i + 1) ≤ k
      above i k l ne =
          elim (leb_tells (to + (i + 1)) k)
          [ inl t ↦ t.1 | inr t ↦ absurd (ne (omega (arith, t.1, l))) ]

    pub down : (j n : ℕ) → from ≤ to → j < n
        → ((k : ℕ) → byte_at now k ≡ copied_byte old from to (j + 1) n k)
        → b ≡ byte_at now (from + j) → byte_at new (to + j) ≡ b
        → ((k : ℕ) → k ≢ to + j → byte_at new k ≡ byte_at now k) → (k : ℕ)
        → byte_at new k ≡ copied_byte old from to j n k
    down j n h less so_far read same others k = elim (same_or_not k (to + j)) [
      | inl e ↦ ap (byte_at new) e ∙ same ∙ read ∙ so_far (from + j)
          ∙ under (j + 1) n (from + j) (omega (arith, h))
          ∙ ap (byte_at old) (omega (arith, e))
          ∙ sym (inside j n k (omega (arith, e)) (omega (arith, e, less)))
      | inr ne ↦ others k ne ∙ so_far k
          ∙ grown (j + 1) n j n k (omega arith) (omega arith) (λ l. below j k l ne) (λ l. l)
    ] where
      below : (j k : ℕ) → k < to + (j + 1) → k ≢ to + j → k < to + j
      below j k l ne =
          elim (leb_tells (to + j) k) [ inl t ↦ absurd (ne (omega (arith, t.1, l))) | inr t ↦ t.1 ]

    pub down_loop : (i n : ℕ) → from ≤ to → i < n
        → ((k : ℕ) → byte_at now k ≡ copied_byte old from to (n - i) n k)
        → b ≡ byte_at now (from + (n - 1 - i)) → byte_at new (to + (n - 1 - i)) ≡ b
        → ((k : ℕ) → k ≢ to + (n - 1 - i) → byte_at new k ≡ byte_at now k) → (k : ℕ)
        → byte_at new k ≡ copied_byte old from to (n - (i + 1)) n k
    down_loop i n h less so_far read same others k =
        let first : n - i ≡ n - 1 - i + 1 = omega (arith, less) in
        let next : n - (i + 1) ≡ n - 1 - i = omega (arith, less) in
        down (n - 1 - i) n h (omega (arith, less))
        (λ k. so_far k ∙ ap (λ low. copied_byte old from to low n k) first) read same others k
        ∙ ap (λ low. copied_byte old from to low n k) (sym next)

-- ---- one byte more

-- a byte is written, in a range that grows by it
module _ (old now new : Contents) (from to at byte low high low' high' : ℕ)
    (value : new ≡ record now { memory = with_byte now.memory at byte })
    (fit : FitsSigned w32 (cell_at new.memory at))
    (here : (to + low' ≤ at) × (at < to + high')) (wider : (low' ≤ low) × (high ≤ high'))
    (rest : (k : ℕ) → to + low' ≤ k → k < to + high' → k ≢ at
    → (to + low ≤ k) × (k < to + high)) (r : IsCopied from to low high old now) where
  pub byte_more : ((k : ℕ) → byte_at new.memory k ≡ copied_byte old.memory from to low' high' k)
      → IsCopied from to low' high' old new
  byte_more bytes = record {
    bytes = bytes;
    count = ap (λ b. length b.memory) value ∙ length-set now.memory _ _ ∙ r.count;
    others =
        λ i apart. others_after now.memory new.memory at i _ (ap (λ b. b.memory) value)
        (apart at here.0 here.1)
        ∙ r.others i (λ k l h. apart k (omega (arith, l, wider.0)) (omega (arith, h, wider.1)));
    fits =
        λ k l h. fits_after now.memory new.memory at k _ (ap (λ b. b.memory) value) fit
        (λ ne. r.fits k (rest k l h ne).0 (rest k l h ne).1);
    code = ap (λ b. b.code) value ∙ r.code;
    store = ap (λ b. b.store) value ∙ r.store;
  }

-- ---- whole cells at once

module _ (old new : Contents) (from to count : ℕ)
    (whole : (from % 4 ≡ 0) × ((to % 4 ≡ 0) × (count % 4 ≡ 0)))
    (copied : (i : ℕ) → to / 4 ≤ i → i < to / 4 + count / 4
    → get_or new.memory i (pos 0) ≡ get_or old.memory (from / 4 + (i - to / 4)) (pos 0))
    (below : (i : ℕ) → i < to / 4 → get_or new.memory i (pos 0) ≡ get_or old.memory i (pos 0))
    (behind : (i : ℕ) → to / 4 + count / 4 ≤ i
    → get_or new.memory i (pos 0) ≡ get_or old.memory i (pos 0)) where
  same_byte : (k : ℕ) → get_or new.memory (k / 4) (pos 0) ≡ get_or old.memory (k / 4) (pos 0)
      → byte_at new.memory k ≡ byte_at old.memory k
  same_byte k e = ap (λ cell. char_at cell (3 - k % 4)) e

  moved_byte : (k : ℕ) → to ≤ k → k < to + count
      → byte_at new.memory k ≡ byte_at old.memory (from + (k - to))
  moved_byte k l h =
      let cell : (from + (k - to)) / 4 ≡ from / 4 + (k / 4 - to / 4) =
      omega (arith, whole.0, whole.1.0, l) in
      let rest : (from + (k - to)) % 4 ≡ k % 4 = omega (arith, whole.0, whole.1.0, l) in
      ap (λ c. char_at c (3 - k % 4))
      (copied (k / 4) (omega (arith, whole.1.0, l)) (omega (arith, whole.1.0, whole.1.1, h)))
      ∙ ap (λ i. char_at (get_or old.memory i (pos 0)) (3 - k % 4)) (sym cell)
      ∙ ap (λ r. char_at (cell_at old.memory (from + (k - to))) (3 - r)) (sym rest)

  pub bytes_of_cells : (k : ℕ) → byte_at new.memory k ≡ copied_byte old.memory from to 0 count k
  bytes_of_cells k =
      elim (leb_tells (to + 0) k) [
        | inl l ↦ elim (leb_tells (to + count) k) [
          | inl h ↦ same_byte k (behind (k / 4) (omega (arith, whole.1.0, whole.1.1, h.1)))
              ∙ sym (over old.memory from to 0 count k l.1 h.1)
          | inr h ↦ moved_byte k (omega (arith, l.1)) h.1
              ∙ sym (inside old.memory from to 0 count k l.1 h.1)
        ]
        | inr l ↦ same_byte k (below (k / 4) (omega (arith, whole.1.0, l.1)))
            ∙ sym (under old.memory from to 0 count k l.1)
      ]

  pub other_cells : (i : ℕ) → ((k : ℕ) → to + 0 ≤ k → k < to + count → k / 4 ≢ i)
      → get_or new.memory i (pos 0) ≡ get_or old.memory i (pos 0)
  other_cells i apart =
      elim (leb_tells (to / 4) i) [
        | inl l ↦ elim (leb_tells (to / 4 + count / 4) i) [
          | inl h ↦ behind i h.1
          | inr h ↦ absurd (apart (4 * i) (omega (arith, whole.1.0, l.1))
              (omega (arith, whole.1.0, whole.1.1, h.1)) (omega arith))
        ]
        | inr l ↦ below i l.1
      ]

-- ---- one cell more in a run

-- the cells in front of a run are as they were
pub in_front : (to i : ℕ) (old new : List ℤ) → take to new ≡ take to old → i < to
    → get_or new i (pos 0) ≡ get_or old i (pos 0)
in_front to i old new e h =
    sym (get_or-take to new i (pos 0) h) ∙ ap (λ cells. get_or cells i (pos 0)) e
    ∙ get_or-take to old i (pos 0) h

module _ (from to count i : ℕ) (old now : List ℤ) (v : ℤ) (is : v ≡ get_or now (from + i) (pos 0))
    (fit : FitsSigned w32 v)
    (apart : (to ≤ from) ⊎ (from + count ≤ to)) (less : i < count)
    (within : to + count ≤ length old) (r : IsRun from to i old now) where
  abbrev new : List ℤ
  new = slice_set now (to + i) v

  abbrev there : to + i < length now
  there = omega (arith, less, within, r.size)

  unread : (to ≤ from) ⊎ (from + count ≤ to)
      → get_or now (from + i) (pos 0) ≡ get_or old (from + i) (pos 0)
  unread (inl h) = r.behind (from + i) (omega (arith, h))
  unread (inr h) = in_front to (from + i) old now r.front (omega (arith, h, less))

  copied_more : (j : ℕ) → to ≤ j → j < to + (i + 1)
      → get_or new j (pos 0) ≡ get_or old (from + (j - to)) (pos 0)
  copied_more j l h = elim (same_or_not j (to + i)) [
    | inl e ↦
        let place : from + i ≡ from + (j - to) = omega (arith, e) in
        ap (λ k. get_or new k (pos 0)) e ∙ get_or-set_same now (to + i) v (pos 0) there ∙ is
        ∙ unread apart ∙ ap (λ k. get_or old k (pos 0)) place
    | inr ne ↦ get_or-set_other now (to + i) j v (pos 0) ne ∙ r.copied j l (omega (arith, h, ne))
  ]

  fits_more : (j : ℕ) → to ≤ j → j < to + (i + 1) → FitsSigned w32 (get_or new j (pos 0))
  fits_more j l h = elim (same_or_not j (to + i)) [
    | inl e ↦ subst (FitsSigned w32)
        (sym (ap (λ k. get_or new k (pos 0)) e ∙ get_or-set_same now (to + i) v (pos 0) there)) fit
    | inr ne ↦ subst (FitsSigned w32) (sym (get_or-set_other now (to + i) j v (pos 0) ne))
        (r.fits j l (omega (arith, h, ne)))
  ]

  pub run_more : IsRun from to (i + 1) old new
  run_more = record {
    copied = copied_more;
    fits = fits_more;
    behind =
        λ j h. get_or-set_other now (to + i) j v (pos 0) (λ e. omega (arith, e, h))
        ∙ r.behind j (omega (arith, h));
    front = take-set-le to now (to + i) v (omega arith) ∙ r.front;
    size = length-set now (to + i) v ∙ r.size;
  }

-- ---- from the last cell on

pub none_down : (low from to count : ℕ) (old : List ℤ) → count ≤ low
    → IsRunFrom low from to count old old
none_down low from to count old none = record {
  copied = λ j l h. absurd (omega (arith, l, h, none));
  fits = λ j l h. absurd (omega (arith, l, h, none));
  behind = λ j h. refl;
  front = refl;
  size = refl;
}

pub all_down : (low from to count : ℕ) (old new : List ℤ) → low ≤ 0
    → IsRunFrom low from to count old new → IsRunFrom 0 from to count old new
all_down low from to count old new h r =
    let none : low ≡ 0 = omega (arith, h) in
    subst (λ n. IsRunFrom n from to count old new) none r

module _ (from to count low i : ℕ) (old now : List ℤ) (v : ℤ)
    (is : v ≡ get_or now (from + i) (pos 0)) (fit : FitsSigned w32 v) (above : from ≤ to)
    (next : low ≡ i + 1) (less : i < count) (within : to + count ≤ length old)
    (r : IsRunFrom low from to count old now) where
  abbrev put : List ℤ
  put = slice_set now (to + i) v

  abbrev held : to + i < length now
  held = omega (arith, less, within, r.size)

  front_low : take (to + i) put ≡ take (to + i) old
  front_low =
      take-set-le (to + i) now (to + i) v (omega arith)
      ∙ sym (take-take (to + i) (to + low) now (omega (arith, next))) ∙ ap (take (to + i)) r.front
      ∙ take-take (to + i) (to + low) old (omega (arith, next))

  copied_down : (j : ℕ) → to + i ≤ j → j < to + count
      → get_or put j (pos 0) ≡ get_or old (from + (j - to)) (pos 0)
  copied_down j l h = elim (same_or_not j (to + i)) [
    | inl e ↦
        let place : from + i ≡ from + (j - to) = omega (arith, e) in
        ap (λ k. get_or put k (pos 0)) e ∙ get_or-set_same now (to + i) v (pos 0) held ∙ is
        ∙ in_front (to + low) (from + i) old now r.front (omega (arith, above, next))
        ∙ ap (λ k. get_or old k (pos 0)) place
    | inr ne ↦ get_or-set_other now (to + i) j v (pos 0) ne
        ∙ r.copied j (omega (arith, l, ne, next)) h
  ]

  fits_down : (j : ℕ) → to + i ≤ j → j < to + count → FitsSigned w32 (get_or put j (pos 0))
  fits_down j l h = elim (same_or_not j (to + i)) [
    | inl e ↦ subst (FitsSigned w32) (sym (ap (λ k. get_or put k (pos 0)) e
        ∙ get_or-set_same now (to + i) v (pos 0) held)) fit
    | inr ne ↦ subst (FitsSigned w32) (sym (get_or-set_other now (to + i) j v (pos 0) ne))
        (r.fits j (omega (arith, l, ne, next)) h)
  ]

  pub run_down : IsRunFrom i from to count old put
  run_down = record {
    copied = copied_down;
    fits = fits_down;
    behind =
        λ j h. get_or-set_other now (to + i) j v (pos 0) (λ e. omega (arith, e, h, less))
        ∙ r.behind j h;
    front = front_low;
    size = length-set now (to + i) v ∙ r.size;
  }

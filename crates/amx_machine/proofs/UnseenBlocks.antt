-- Blocks of bytes in two states that differ in dead cells alone.
use Rattle.std.proofs.Common.{◌≡◌, ◌+◌, ◌-◌, ◌*◌, ◌/◌, ◌%◌, ◌<◌, ◌≤◌, ◌==◌, ◌&&◌, ◌||◌, inl, ℕ}
use Rattle.std.proofs.Common.{zero, suc}
use Rattle.std.proofs.Common.{ℤ, pos, negsuc, List, ◌∷◌, Bool, true, false, cond, length}
use Rattle.std.proofs.Common.{get_or, nat_lt, refl, sym, ap, ap₂, subst, ◌∙◌, arith}
use Rattle.std.proofs.Common.{ltb-true}
use Rattle.std.proofs.lemmas.Bool.{eqb-true, ltb-false, false≢true, and_parts}
use Rattle.std.proofs.lemmas.Bool.Decides.{nat_tests}
use Rattle.std.proofs.lemmas.List.{get_or_past}
use Rattle.std.proofs.lemmas.List.FromFn.{get_or-map-range_with_len, length-map-range_with_len}
use Rattle.pawn_cells.specs.Cells.{cell_of, char_at}
use Rattle.amx_ops.specs.declared.amx.Amx.{Amx}
use Rattle.amx_ops.specs.Table.{is_number}
use Rattle.amx_ops.specs.State.{State, Turned, Halts}
use Rattle.amx_ops.specs.Access.{are_live, byte_at, bytes_at, is_among, is_touched, byte_moved}
use Rattle.amx_ops.specs.Access.{four_bytes, cell_moved, cells_moved, copy, compare, order_of, fill}
use Rattle.amx_ops.specs.Effects.{at_next, swept_if}
use Rattle.amx_machine.specs.Unseen.{lives, Spares}
use Rattle.amx_machine.proofs.FilledLaws.{put, put_none, length_put, put_at}
use Rattle.amx_machine.proofs.UnseenParts.{Alike, Cell, Rows, Pair, carry, base, goes, guard}
use Rattle.amx_machine.proofs.UnseenParts.{are_same}

module _ {amx : Amx} {s : State} {d : List ℤ} (p : Pair amx s d) where
  abbrev t : State
  t = record s { cells = d }

  -- ---- bytes

  among : (a n j : ℕ) → are_live s a n ≡ true → a ≤ j → j < a + n → lives s (j / 4) ≡ true
  among a n j e low high =
      let whole = p.o.whole in
      let order = p.o.order in
      grind (arith, nat_tests)

  byte_same : (j : ℕ) → lives s (j / 4) ≡ true → byte_at s.cells j ≡ byte_at d j
  byte_same j h = ap (λ x. char_at x (3 - j % 4)) (p.live (j / 4) h)

  bytes_same : (a n : ℕ) → ((j : ℕ) → a ≤ j → j < a + n → byte_at s.cells j ≡ byte_at d j)
      → bytes_at s.cells a n ≡ bytes_at d a n
  bytes_same a zero h = refl
  bytes_same a (suc n) h =
      ap₂ (λ x xs. x ∷ xs) (h a (omega arith) (omega arith))
      (bytes_same (a + 1) n (λ j low high. h j (omega (arith, low)) (omega (arith, high))))

  pub compare_alike : (at to n : ℕ) (go : State → ℤ → Turned)
      → ((x : ℤ) → Alike s d (go s x) (go t x))
      → Alike s d (compare s at to n (go s)) (compare t at to n (go t))
  compare_alike at to n go f =
      let it = order_of (bytes_at s.cells at n) (bytes_at s.cells to n) in
      guard p (are_live s at n && are_live s to n) (are_live t at n && are_live t to n) (go s it)
      (go t (order_of (bytes_at d at n) (bytes_at d to n))) (pos 5)
      (ap₂ (λ b c. b && c) (are_same p at n) (are_same p to n))
      (λ e. let h = and_parts (are_live s at n) (are_live s to n) e in
      subst (λ x. Alike s d (go s it) (go t x))
      (ap₂ order_of
      (bytes_same at n (λ j low high. byte_same j (among at n j h.0 low high)))
      (bytes_same to n (λ j low high. byte_same j (among to n j h.1 low high)))) (f it))

  -- ---- copies

  module _ (from to n : ℕ) (f : are_live s from n ≡ true) (g : are_live s to n ≡ true) where
    touched_lives : (k : ℕ) → is_touched to n k ≡ true → lives s k ≡ true
    touched_lives k e =
        let whole = p.o.whole in
        let order = p.o.order in
        grind (arith, nat_tests)

    moved_same : (j : ℕ) → lives s (j / 4) ≡ true
        → byte_moved s.cells from to n j ≡ byte_moved d from to n j
    moved_same j h = by (is_among to n j) refl
      where
        by : (b : Bool) → is_among to n j ≡ b
            → cond b (byte_at s.cells (from + (j - to))) (byte_at s.cells j)
            ≡ cond b (byte_at d (from + (j - to))) (byte_at d j)
        by true e =
            byte_same (from + (j - to)) (among from n (from + (j - to)) f (omega arith) (near j e))
          where
            near : (j : ℕ) → is_among to n j ≡ true → from + (j - to) < from + n
            near j e = grind (arith, nat_tests)
        by false e = byte_same j h

    four_same : (k : ℕ) → lives s k ≡ true
        → four_bytes (byte_moved s.cells from to n) (4 * k) ≡ four_bytes (byte_moved d from to n) (4 * k)
    four_same k h =
        let at = λ (i : ℕ) (e : k ≡ (4 * k + i) / 4). moved_same (4 * k + i) (subst (λ m. lives s m ≡ true) e h) in
        let a : byte_moved s.cells from to n (4 * k) ≡ byte_moved d from to n (4 * k) =
        moved_same (4 * k) (subst (λ m. lives s m ≡ true) (omega arith) h) in
        rw (a, at 1 (omega arith), at 2 (omega arith), at 3 (omega arith)) refl

    moved_at : (c : List ℤ) (k : ℕ) → k < length c
        → get_or (cells_moved c from to n) k (pos 0) ≡ cell_moved c from to n k
    moved_at c k h = get_or-map-range_with_len (cell_moved c from to n) 0 (length c) k k (pos 0) h (omega arith)

    moved_past : (c : List ℤ) (k : ℕ) → length c ≤ k → get_or (cells_moved c from to n) k (pos 0) ≡ pos 0
    moved_past c k h =
        get_or_past (cells_moved c from to n) k (pos 0)
        (omega (arith, h, length-map-range_with_len (cell_moved c from to n) 0 (length c)))

    touched_by : (k : ℕ) (b : Bool) → is_touched to n k ≡ b
        → Cell s d k (cond b (cell_of (four_bytes (byte_moved s.cells from to n) (4 * k))) (get_or s.cells k (pos 0)))
        (cond b (cell_of (four_bytes (byte_moved d from to n) (4 * k))) (get_or d k (pos 0)))
    touched_by k true e = inl (ap cell_of (four_same k (touched_lives k e)))
    touched_by k false e = carry p k _ _ refl refl

    moved_rows : Rows s d (cells_moved s.cells from to n) (cells_moved d from to n)
    moved_rows = record {
      wide = length-map-range_with_len (cell_moved s.cells from to n) 0 (length s.cells);
      both =
          omega (
            arith,
            p.size,
            length-map-range_with_len (cell_moved s.cells from to n) 0 (length s.cells),
            length-map-range_with_len (cell_moved d from to n) 0 (length d),
          );
      each = λ k. by k (nat_lt k (length s.cells)) refl;
    }
      where
        by : (k : ℕ) (b : Bool) → nat_lt k (length s.cells) ≡ b
            → Cell s d k (get_or (cells_moved s.cells from to n) k (pos 0)) (get_or (cells_moved d from to n) k (pos 0))
        by k true e =
            let h = ltb-true k (length s.cells) e in
            rw (moved_at s.cells k h, moved_at d k (omega (arith, h, p.size)))
            (touched_by k (is_touched to n k) refl)
        by k false e =
            let h = ltb-false k (length s.cells) e in
            inl (moved_past s.cells k h ∙ sym (moved_past d k (omega (arith, h, p.size))))

    moved_spares : Spares s (record s { cells = cells_moved s.cells from to n })
    moved_spares = λ k dead behind. by k dead (nat_lt k (length s.cells)) refl
      where
        kept : (k : ℕ) (b : Bool) → is_touched to n k ≡ b → lives s k ≡ false
            → cond b (cell_of (four_bytes (byte_moved s.cells from to n) (4 * k))) (get_or s.cells k (pos 0))
            ≡ get_or s.cells k (pos 0)
        kept k true e dead = absurd (false≢true (sym dead ∙ touched_lives k e))
        kept k false e dead = refl

        by : (k : ℕ) → lives s k ≡ false → (b : Bool) → nat_lt k (length s.cells) ≡ b
            → get_or (cells_moved s.cells from to n) k (pos 0) ≡ get_or s.cells k (pos 0)
        by k dead true e =
            moved_at s.cells k (ltb-true k (length s.cells) e) ∙ kept k (is_touched to n k) refl dead
        by k dead false e =
            let h = ltb-false k (length s.cells) e in
            moved_past s.cells k h ∙ sym (get_or_past s.cells k (pos 0) h)

  pub copy_alike : (from to n q : ℕ) → Alike s d (copy s from to n (at_next q)) (copy t from to n (at_next q))
  copy_alike from to n q =
      guard p (are_live s from n && are_live s to n) (are_live t from n && are_live t to n) _ _ (pos 5)
      (ap₂ (λ b c. b && c) (are_same p from n) (are_same p to n))
      (λ e. let h = and_parts (are_live s from n) (are_live s to n) e in
      goes p (moved_rows from to n h.0 h.1) (moved_spares from to n h.0 h.1))

  -- ---- cells set to one value

  put_rows : (v : ℤ) (h k n : ℕ) → h + n ≡ k → k ≤ length s.cells
      → Rows s d (put s.cells v h k n) (put d v h k n)
  put_rows v h k n count high =
      let top : k ≤ length d = omega (arith, high, p.size) in
      record {
        wide = length_put s.cells v h k n count high;
        both =
            omega (
              arith,
              p.size,
              length_put s.cells v h k n count high,
              length_put d v h k n count top,
            );
        each =
            λ j. rw (put_at s.cells v h k n count high j, put_at d v h k n count top j)
            (by j (nat_lt j h) (nat_lt j k));
      }
    where
      by : (j : ℕ) (b c : Bool)
          → Cell s d j (cond b (get_or s.cells j (pos 0)) (cond c v (get_or s.cells j (pos 0))))
          (cond b (get_or d j (pos 0)) (cond c v (get_or d j (pos 0))))
      by j true c = carry p j _ _ refl refl
      by j false true = inl refl
      by j false false = carry p j _ _ refl refl

  put_spares : (v : ℤ) (h k n : ℕ) → h + n ≡ k → k ≤ length s.cells
      → ((j : ℕ) → h ≤ j → j < k → lives s j ≡ true)
      → Spares s (record s { cells = put s.cells v h k n })
  put_spares v h k n count high all = λ j dead behind.
      put_at s.cells v h k n count high j ∙ by j dead (nat_lt j h) (nat_lt j k) refl refl
    where
      by : (j : ℕ) → lives s j ≡ false → (b c : Bool) → nat_lt j h ≡ b → nat_lt j k ≡ c
          → cond b (get_or s.cells j (pos 0)) (cond c v (get_or s.cells j (pos 0))) ≡ get_or s.cells j (pos 0)
      by j dead true c e f = refl
      by j dead false true e f =
          absurd (false≢true (sym dead ∙ all j (ltb-false j h e) (ltb-true j k f)))
      by j dead false false e f = refl

  module _ (a n : ℕ) (v : ℤ) where
    abbrev set : List ℤ → List ℤ
    set xs = put xs v (a / 4) (a / 4 + n / 4) (n / 4)

    fill_high : (n == 0) ≡ false → are_live s a n ≡ true → a / 4 + n / 4 ≤ length s.cells
    fill_high e f = let order = p.o.order in grind (arith, nat_tests)

    fill_lives : (a % 4 == 0) ≡ true → are_live s a n ≡ true → (j : ℕ) → a / 4 ≤ j → j < a / 4 + n / 4
        → lives s j ≡ true
    fill_lives e f j low high =
        let whole = eqb-true (a % 4) 0 e in
        let there : 4 * j / 4 ≡ j = omega arith in
        subst (λ m. lives s m ≡ true) there
        (among a n (4 * j) f (omega (arith, low, whole)) (omega (arith, high, whole)))

    fill_rows : (b : Bool) → (n == 0) ≡ b → (b || ((a % 4 == 0) && are_live s a n)) ≡ true
        → Rows s d (set s.cells) (set d) × Spares s (record s { cells = set s.cells })
    fill_rows true e f =
        let none = eqb-true n 0 e in
        let same = λ (xs : List ℤ). put_none xs v (a / 4) (a / 4 + n / 4) (n / 4)
        (omega (arith, none)) (omega (arith, none)) in
        (rw (same s.cells, same d) (base p), λ k dead behind. ap (λ x. get_or x k (pos 0)) (same s.cells))
    fill_rows false e f =
        let h = and_parts (a % 4 == 0) (are_live s a n) f in
        let high = fill_high e h.1 in (
          put_rows v (a / 4) (a / 4 + n / 4) (n / 4) refl high,
          put_spares v (a / 4) (a / 4 + n / 4) (n / 4) refl high (fill_lives h.0 h.1),
        )

    pub fill_alike : (q : ℕ) → Alike s d (fill s a n v (at_next q)) (fill t a n v (at_next q))
    fill_alike q =
        guard p ((n == 0) || ((a % 4 == 0) && are_live s a n))
        ((n == 0) || ((a % 4 == 0) && are_live t a n)) _ _ (pos 5)
        (ap (λ b. (n == 0) || ((a % 4 == 0) && b)) (are_same p a n))
        (λ e. let r = fill_rows (n == 0) refl e in goes p r.0 r.1)

  -- ---- a halt, which at 12 sweeps

  number_is : (v : ℤ) → is_number 12 v ≡ true → v ≡ pos 12
  number_is (pos m) e = ap pos (sym (eqb-true 12 m e))
  number_is (negsuc m) e = absurd (false≢true e)

  halt_by : (v : ℤ) (q : ℕ) (b : Bool) → is_number 12 v ≡ b
      → Alike s d (Halts v (record (swept_if b s) { cip = q })) (Halts v (record (swept_if b t) { cip = q }))
  halt_by v q true e =
      let whole = p.o.whole in
      let order = p.o.order in
      let r = put_rows (pos 0) (s.hea / 4) (s.stk / 4) (s.stk / 4 - s.hea / 4) (omega arith) (omega arith) in
      record {
        by = (refl, record { have = record { registers = refl; size = r.both }; cells = r.each });
        spares = λ other. absurd (other (number_is v e));
      }
  halt_by v q false e = let r = base p in record {
    by = (refl, record { have = record { registers = refl; size = r.both }; cells = r.each });
    spares = λ other k dead behind. refl;
  }

  pub halt_alike : (v : ℤ) (q : ℕ)
      → Alike s d (Halts v (record (swept_if (is_number 12 v) s) { cip = q }))
      (Halts v (record (swept_if (is_number 12 v) t) { cip = q }))
  halt_alike v q = halt_by v q (is_number 12 v) refl

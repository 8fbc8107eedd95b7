-- The parts of a step keep a state in its form.
use Rattle.std.proofs.Common.{◌≡◌, ◌+◌, ◌-◌, ◌*◌, ◌/◌, ◌%◌, ◌^◌, ◌<◌, ◌≤◌, ◌==◌, ◌&&◌, ◌||◌, ◌++◌}
use Rattle.std.proofs.Common.{ℕ, zero, suc, ℤ, pos, negsuc, ◌+ℤ◌, List, [], ◌∷◌, Bool, true, false}
use Rattle.std.proofs.Common.{cond, All, map, length, take, drop, replicate, get_or, set, nat_le}
use Rattle.std.proofs.Common.{nat_lt, refl, ap, sym, ◌∙◌, arith, length-append, length-drop}
use Rattle.std.proofs.Common.{length-set, leb-true, ltb-true}
use Rattle.std.specs.List.{range_with_len}
use Rattle.std.proofs.lemmas.Int.{ints}
use Rattle.std.proofs.lemmas.List.{length-take, length-replicate, take_at, drop_at, append_assoc}
use Rattle.std.proofs.lemmas.Bool.Decides.{nat_tests}
use Rattle.std.proofs.lemmas.List.FromFn.{length-map-range_with_len}
use Rattle.std.proofs.lemmas.List.Elements.{All-nil, All-cons, All-head, All-tail, All-append}
use Rattle.std.proofs.lemmas.List.Elements.{All-take, All-drop, All-set, All-replicate}
use Rattle.pawn_cells.specs.Cells.{IsCell, bits_of, cell_of, add}
use Rattle.amx_ops.specs.declared.amx.Amx.{Amx}
use Rattle.amx_ops.specs.State.{State, Turned, Errs, stp, first_hea, cell_at, push, pop, swept}
use Rattle.amx_ops.specs.States.{IsState}
use Rattle.amx_ops.specs.Keeps.{Leaves}
use Rattle.amx_ops.specs.Access.{is_live, is_live_part, are_live, load, store, raise, load_part}
use Rattle.amx_ops.specs.Access.{store_part, part, with_part, bytes_at, is_touched, four_bytes}
use Rattle.amx_ops.specs.Access.{byte_moved, cells_moved, cell_moved, copy, compare, order_of, fill}
use Rattle.pawn_cells.proofs.CellLaws.{cell_of_cell, wrap_cell, small_cell}

-- a cell of a list, or 0 behind its end
pub get_cell : (cells : List ℤ) (i : ℕ) → All IsCell cells → IsCell (get_or cells i (pos 0))
get_cell [] i h = small_cell 0 (omega arith)
get_cell (cell ∷ cells) zero h = All-head IsCell cell cells h
get_cell (cell ∷ cells) (suc i) h = get_cell cells i (All-tail IsCell cell cells h)

-- some cells in the place of as many
pub length-put : (cells new : List ℤ) (i k : ℕ) → length new ≤ length cells - i → i + length new ≡ k
    → length (take i cells ++ (new ++ drop k cells)) ≡ length cells
length-put cells new i k h e =
    omega (
      arith,
      length-append (take i cells) (new ++ drop k cells),
      length-append new (drop k cells),
      length-take i cells,
      length-drop k cells,
    )

pub cells-put : (cells new : List ℤ) (i k : ℕ) → All IsCell cells → All IsCell new
    → All IsCell (take i cells ++ (new ++ drop k cells))
cells-put cells new i k h g =
    All-append IsCell (take i cells) (new ++ drop k cells) (All-take IsCell i cells h)
    (All-append IsCell new (drop k cells) g (All-drop IsCell k cells h))

module _ (amx : Amx) where
  -- ---- one register, or the cells

  -- the registers that hold a number of their range
  with_numbers : (s : State) (pri alt : ℤ) (frm cip : ℕ) → IsCell pri → IsCell alt → frm < 2 ^ 32
      → cip < 2 ^ 32 → IsState amx s
      → IsState amx (record s { pri = pri; alt = alt; frm = frm; cip = cip })
  with_numbers s pri alt frm cip p a f c h =
      record {
        pri = p;
        alt = a;
        frm = f;
        cip = c;
        cells = h.cells;
        size = h.size;
        whole = h.whole;
        order = h.order;
      }

  pub with_pri : (s : State) (x : ℤ) → IsCell x → IsState amx s → IsState amx (record s { pri = x })
  with_pri s x c h = with_numbers s x s.alt s.frm s.cip c h.alt h.frm h.cip h

  pub with_alt : (s : State) (x : ℤ) → IsCell x → IsState amx s → IsState amx (record s { alt = x })
  with_alt s x c h = with_numbers s s.pri x s.frm s.cip h.pri c h.frm h.cip h

  pub with_frm : (s : State) (n : ℕ) → n < 2 ^ 32 → IsState amx s
      → IsState amx (record s { frm = n })
  with_frm s n c h = with_numbers s s.pri s.alt n s.cip h.pri h.alt c h.cip h

  pub with_cip : (s : State) (n : ℕ) → n < 2 ^ 32 → IsState amx s
      → IsState amx (record s { cip = n })
  with_cip s n c h = with_numbers s s.pri s.alt s.frm n h.pri h.alt h.frm c h

  -- the ends of heap and stack
  with_ends : (s : State) (hea stk : ℕ) → (hea % 4 ≡ 0) × (stk % 4 ≡ 0)
      → (first_hea amx ≤ hea) × (hea ≤ stk) × (stk ≤ stp s) → IsState amx s
      → IsState amx (record s { hea = hea; stk = stk })
  with_ends s hea stk whole order h = record {
    pri = h.pri;
    alt = h.alt;
    frm = h.frm;
    cip = h.cip;
    cells = h.cells;
    size = h.size;
    whole = whole;
    order = order;
  }

  pub with_stk : (s : State) (n : ℕ) → n % 4 ≡ 0 → s.hea ≤ n → n ≤ stp s → IsState amx s
      → IsState amx (record s { stk = n })
  with_stk s n c low high h = with_ends s s.hea n (h.whole.0, c) (h.order.0, low, high) h

  pub with_hea : (s : State) (n : ℕ) → n % 4 ≡ 0 → first_hea amx ≤ n → n ≤ s.stk → IsState amx s
      → IsState amx (record s { hea = n })
  with_hea s n c low high h = with_ends s n s.stk (c, h.whole.1) (low, high, h.order.2) h

  pub with_cells : (s : State) (new : List ℤ) → All IsCell new → length new ≡ length s.cells
      → IsState amx s → IsState amx (record s { cells = new })
  with_cells s new c e h = record {
    pri = h.pri;
    alt = h.alt;
    frm = h.frm;
    cip = h.cip;
    cells = c;
    size = omega (arith, e, h.size);
    whole = h.whole;
    order = (h.order.0, h.order.1, omega (arith, e, h.order.2));
  }

  pub cell_fits : (s : State) (a : ℕ) → IsState amx s → IsCell (cell_at s a)
  cell_fits s a h = get_cell s.cells (a / 4) h.cells

  -- ---- a test before it goes on

  pub guard : (b : Bool) (t : Turned) (code : ℤ) → (b ≡ true → Leaves amx t)
      → Leaves amx (cond b t (Errs code))
  guard true t code h = h refl
  guard false t code h = tt

  -- ---- cells

  pub load_keeps : (s : State) (a : ℕ) (go : ℤ → Turned) → IsState amx s
      → ((x : ℤ) → IsCell x → Leaves amx (go x)) → Leaves amx (load s a go)
  load_keeps s a go h f =
      guard (is_live s a) (go (cell_at s a)) (pos 5) (λ e. f (cell_at s a) (cell_fits s a h))

  pub set_keeps : (s : State) (i : ℕ) (v : ℤ) → IsCell v → IsState amx s
      → IsState amx (record s { cells = set s.cells i v })
  set_keeps s i v c h =
      with_cells s (set s.cells i v) (All-set IsCell s.cells i v c h.cells)
      (length-set s.cells i v) h

  pub store_keeps : (s : State) (a : ℕ) (v : ℤ) (go : State → Turned) → IsCell v → IsState amx s
      → ((t : State) → IsState amx t → Leaves amx (go t)) → Leaves amx (store s a v go)
  store_keeps s a v go c h f =
      guard (is_live s a) (go (record s { cells = set s.cells (a / 4) v })) (pos 5)
      (λ e. f _ (set_keeps s (a / 4) v c h))

  pub raise_keeps : (s : State) (a : ℕ) (more : ℤ) (go : State → Turned) → IsState amx s
      → ((t : State) → IsState amx t → Leaves amx (go t)) → Leaves amx (raise s a more go)
  raise_keeps s a more go h f =
      load_keeps s a (λ v. store s a (add v more) go) h
      (λ v c. store_keeps s a (add v more) go (wrap_cell (v +ℤ more)) h f)

  pub load_part_keeps : (s : State) (a n : ℕ) (go : ℤ → Turned) → IsState amx s
      → ((x : ℤ) → IsCell x → Leaves amx (go x))
      → Leaves amx (load_part s a n go)
  load_part_keeps s a n go h f =
      guard (is_live_part s a n) (go (cell_of (part (cell_at s a) (a % 4) n))) (pos 5)
      (λ e. f _ (cell_of_cell (part (cell_at s a) (a % 4) n)))

  pub store_part_keeps : (s : State) (a n : ℕ) (v : ℤ) (go : State → Turned) → IsState amx s
      → ((t : State) → IsState amx t → Leaves amx (go t)) → Leaves amx (store_part s a n v go)
  store_part_keeps s a n v go h f =
      let x = with_part (cell_at s a) (a % 4) n (bits_of v) in
      guard (is_live_part s a n) (go (record s { cells = set s.cells (a / 4) x })) (pos 5)
      (λ e. f _ (set_keeps s (a / 4) x (cell_of_cell _) h))

  -- ---- many bytes

  moved_by : (old : ℤ) (b : Bool) (n : ℕ) → IsCell old → IsCell (cond b (cell_of n) old)
  moved_by old true n h = cell_of_cell n
  moved_by old false n h = h

  moved_cells : (cells : List ℤ) (from to n a k : ℕ) → All IsCell cells
      → All IsCell (map (cell_moved cells from to n) (range_with_len a k))
  moved_cells cells from to n a zero h = All-nil IsCell
  moved_cells cells from to n a (suc k) h =
      All-cons IsCell (cell_moved cells from to n a)
      (map (cell_moved cells from to n) (range_with_len (a + 1) k))
      (moved_by (get_or cells a (pos 0)) (is_touched to n a)
      (four_bytes (byte_moved cells from to n) (4 * a)) (get_cell cells a h))
      (moved_cells cells from to n (a + 1) k h)

  pub copy_keeps : (s : State) (from to n : ℕ) (go : State → Turned) → IsState amx s
      → ((t : State) → IsState amx t → Leaves amx (go t))
      → Leaves amx (copy s from to n go)
  copy_keeps s from to n go h f =
      guard (are_live s from n && are_live s to n)
      (go (record s { cells = cells_moved s.cells from to n })) (pos 5)
      (λ e. f _ (with_cells s (cells_moved s.cells from to n)
      (moved_cells s.cells from to n 0 (length s.cells) h.cells)
      (length-map-range_with_len (cell_moved s.cells from to n) 0 (length s.cells)) h))

  order_by : (a b : Bool) (r : ℤ) → IsCell r → IsCell (cond a (negsuc 0) (cond b (pos 1) r))
  order_by true b r h = omega (arith, ints)
  order_by false true r h = omega (arith, ints)
  order_by false false r h = h

  order_cell : (xs ys : List ℕ) → IsCell (order_of xs ys)
  order_cell [] ys = small_cell 0 (omega arith)
  order_cell (x ∷ xs) [] = small_cell 0 (omega arith)
  order_cell (x ∷ xs) (y ∷ ys) =
      order_by (nat_lt x y) (nat_lt y x) (order_of xs ys) (order_cell xs ys)

  pub compare_keeps : (s : State) (at to n : ℕ) (go : ℤ → Turned)
      → ((x : ℤ) → IsCell x → Leaves amx (go x)) → Leaves amx (compare s at to n go)
  compare_keeps s at to n go f = let r = order_of (bytes_at s.cells at n) (bytes_at s.cells to n) in
      guard (are_live s at n && are_live s to n) (go r) (pos 5)
      (λ e. f r (order_cell (bytes_at s.cells at n) (bytes_at s.cells to n)))

  -- ---- the stack

  pub pushed : (s : State) (v : ℤ) → s.hea + 4 ≤ s.stk → IsCell v → IsState amx s
      → IsState amx (record s { stk = s.stk - 4; cells = set s.cells ((s.stk - 4) / 4) v })
  pushed s v e c h =
      let a = h.whole.1 in
      let b = h.order.2 in
      set_keeps (record s { stk = s.stk - 4 }) ((s.stk - 4) / 4) v c
      (with_stk s (s.stk - 4) (omega arith) (omega arith) (omega arith) h)

  pub push_keeps : (s : State) (v : ℤ) (go : State → Turned) → IsCell v → IsState amx s
      → ((t : State) → IsState amx t → Leaves amx (go t))
      → Leaves amx (push s v go)
  push_keeps s v go c h f =
      guard (nat_le (s.hea + 4) s.stk)
      (go (record s { stk = s.stk - 4; cells = set s.cells ((s.stk - 4) / 4) v })) (pos 3)
      (λ e. f _ (pushed s v (leb-true (s.hea + 4) s.stk e) c h))

  pub pop_keeps : (s : State) (go : ℤ → State → Turned) → IsState amx s
      → ((x : ℤ) (t : State) → IsCell x → IsState amx t → Leaves amx (go x t))
      → Leaves amx (pop s go)
  pop_keeps s go h f =
      guard (nat_lt s.stk (stp s)) (go (cell_at s s.stk) (record s { stk = s.stk + 4 })) (pos 7)
      (λ e. let k = ltb-true s.stk (stp s) e in
      let a = h.whole.1 in
      let b = h.order.1 in
      f _ _ (cell_fits s s.stk h) (with_stk s (s.stk + 4) (omega arith) (omega arith)
      (omega arith) h))

  -- ---- parts of the cells

  pub put_keeps : (s : State) (new : List ℤ) (i k : ℕ) → All IsCell new
      → length new ≤ length s.cells - i → i + length new ≡ k → IsState amx s
      → IsState amx (record s { cells = take i s.cells ++ (new ++ drop k s.cells) })
  put_keeps s new i k c l e h =
      with_cells s (take i s.cells ++ (new ++ drop k s.cells)) (cells-put s.cells new i k h.cells c)
      (length-put s.cells new i k l e) h

  many_keeps : (s : State) (v : ℤ) (i n k : ℕ) → IsCell v → n ≤ length s.cells - i → i + n ≡ k
      → IsState amx s
      → IsState amx (record s { cells = take i s.cells ++ (replicate n v ++ drop k s.cells) })
  many_keeps s v i n k c l e h =
      let size : length (replicate n v) ≡ n = length-replicate n v in
      put_keeps s (replicate n v) i k (All-replicate IsCell n v c) (omega arith) (omega arith) h

  pub swept_keeps : (s : State) → IsState amx s → IsState amx (swept s)
  swept_keeps s h =
      let a = h.whole in
      let b = h.order in
      many_keeps s (pos 0) (s.hea / 4) (s.stk / 4 - s.hea / 4) (s.stk / 4)
      (small_cell 0 (omega arith)) (omega arith) (omega arith) h

  -- to sweep twice is to sweep once
  swept_twice : (i n k : ℕ) (cells : List ℤ) → i ≤ length cells → i + n ≡ k
      → (let new = take i cells ++ (replicate n (pos 0) ++ drop k cells) in take i new
      ++ (replicate n (pos 0) ++ drop k new) ≡ new)
  swept_twice i n k cells h e =
      let zeros = replicate n (pos 0) in
      let rest = drop k cells in
      let first : take i (take i cells ++ (zeros ++ rest)) ≡ take i cells =
      take_at (take i cells) (zeros ++ rest) i (omega (arith, length-take i cells)) in
      let last : drop k (take i cells ++ (zeros ++ rest)) ≡ rest =
      ap (drop k) (sym (append_assoc (take i cells) zeros rest))
      ∙ drop_at (take i cells ++ zeros) rest k
      (omega (
        arith,
        length-append (take i cells) zeros,
        length-take i cells,
        length-replicate n (pos 0),
      )) in
      rw (first, last) refl

  pub swept_same : (s : State) → IsState amx s → swept (swept s) ≡ swept s
  swept_same s h =
      let a = h.whole in
      let b = h.order in
      ap (λ c. record s { cells = c })
      (swept_twice (s.hea / 4) (s.stk / 4 - s.hea / 4) (s.stk / 4) s.cells (omega arith)
      (omega arith))

  live_within : (s : State) (a n : ℕ) → IsState amx s → are_live s a n ≡ true → n ≤ stp s - a
  live_within s a n h e = let b = h.order in grind (arith, nat_tests)

  fill_live : (s : State) (a n : ℕ) → IsState amx s
      → ((n == 0) || ((a % 4 == 0) && are_live s a n)) ≡ true → n / 4 ≤ length s.cells - a / 4
  fill_live s a n h e = let b = h.order in grind (arith, nat_tests)

  pub fill_keeps : (s : State) (a n : ℕ) (v : ℤ) (go : State → Turned) → IsCell v → IsState amx s
      → ((t : State) → IsState amx t → Leaves amx (go t))
      → Leaves amx (fill s a n v go)
  fill_keeps s a n v go c h f =
      guard ((n == 0) || ((a % 4 == 0) && are_live s a n))
      (go (record s {
        cells = take (a / 4) s.cells
            ++ (replicate (n / 4) v ++ drop (a / 4 + n / 4) s.cells);
      })) (pos 5)
      (λ e. f _ (many_keeps s v (a / 4) (n / 4) (a / 4 + n / 4) c (fill_live s a n h e) refl h))

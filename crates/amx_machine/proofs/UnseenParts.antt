-- The parts of a step of two states that differ in dead cells alone.
use Rattle.std.proofs.Common.{◌≡◌, ◌⊎◌, inl, inr, ◌+◌, ◌-◌, ◌*◌, ◌/◌, ◌%◌, ◌<◌, ◌≤◌, ◌==◌, ◌&&◌}
use Rattle.std.proofs.Common.{◌||◌}
use Rattle.std.proofs.Common.{ℕ, ℤ, pos, List, Bool, true, false, cond}
use Rattle.std.proofs.Common.{length, get_or, set, nat_le, nat_lt, refl, sym, ap, subst}
use Rattle.std.proofs.Common.{◌∙◌, arith, leb-true, length-set}
use Rattle.std.proofs.lemmas.Bool.{eqb-true, eqb-false, false≢true, and_parts}
use Rattle.std.proofs.lemmas.Bool.Decides.{nat_tests}
use Rattle.std.proofs.lemmas.Grind.{get_or-set_at}
use Rattle.std.proofs.lemmas.List.{get_or-set_other}
use Rattle.pawn_cells.specs.Cells.{bits_of, cell_of, add}
use Rattle.amx_ops.specs.declared.amx.Amx.{Amx}
use Rattle.amx_ops.specs.State.{State, Turned, Goes, Errs, Asks, push, pop}
use Rattle.amx_ops.specs.State.{cell_at}
use Rattle.amx_ops.specs.Access.{is_live, load, store, raise, load_part, store_part, is_live_part}
use Rattle.amx_ops.specs.Access.{part, with_part, are_live}
use Rattle.amx_step.specs.Hosting.{AreInOrder}
use Rattle.amx_machine.specs.Unseen.{lives, EndAlike, Spares}
use Rattle.amx_machine.specs.Unseen.{SparesDead}

-- of one state and of one with other cells
pub record Alike (s : State) (d : List ℤ) (a b : Turned) : Type 0 where
  pub by : EndAlike s (record s { cells = d }) a b
  pub spares : SparesDead s a

-- what a cell is in both
abbrev pub Cell : State → List ℤ → ℕ → ℤ → ℤ → Type 0
Cell s d k x y =
    (x ≡ y)
    ⊎ ((lives s k ≡ false) × (x ≡ get_or s.cells k (pos 0)) × (y ≡ get_or d k (pos 0)))

-- the cells of both
pub record Rows (s : State) (d x y : List ℤ) : Type 0 where
  pub wide : length x ≡ length s.cells
  pub both : length y ≡ length x
  pub each : (k : ℕ) → Cell s d k (get_or x k (pos 0)) (get_or y k (pos 0))

top_lives : (hea stk len k : ℕ) → hea + 4 ≤ stk → stk % 4 ≡ 0 → stk ≤ 4 * len → k ≡ (stk - 4) / 4
    → (((4 * k) % 4 == 0) && (nat_lt (4 * k) hea || (nat_le (stk - 4) (4 * k) && nat_lt (4 * k) (4 * len))))
    ≡ true
top_lives hea stk len k room whole top e = grind (arith, nat_tests)

-- a state in order, and cells that differ from its own where they are dead alone
pub record Pair (amx : Amx) (s : State) (d : List ℤ) : Type 0 where
  pub o : AreInOrder amx s
  pub size : length d ≡ length s.cells
  pub live : (k : ℕ) → lives s k ≡ true → get_or s.cells k (pos 0) ≡ get_or d k (pos 0)

module _ {amx : Amx} {s : State} {d : List ℤ} (p : Pair amx s d) where
  abbrev o : AreInOrder amx s
  o = p.o

  abbrev size : length d ≡ length s.cells
  size = p.size

  abbrev live : (k : ℕ) → lives s k ≡ true → get_or s.cells k (pos 0) ≡ get_or d k (pos 0)
  live = p.live

  abbrev t : State
  t = record s { cells = d }

  -- ---- leaves

  pub carry : (k : ℕ) (x y : ℤ) → x ≡ get_or s.cells k (pos 0) → y ≡ get_or d k (pos 0) → Cell s d k x y
  carry k x y f g = by (lives s k) refl
    where
      by : (b : Bool) → lives s k ≡ b → Cell s d k x y
      by true e = inl (f ∙ (live k e ∙ sym g))
      by false e = inr (e, f, g)

  pub base : Rows s d s.cells d
  base = record { wide = refl; both = size; each = λ k. carry k _ _ refl refl }

  pub goes : {a : State} {y : List ℤ} → Rows s d a.cells y → Spares s a
      → Alike s d (Goes a) (Goes (record a { cells = y }))
  goes {a} {y} r k = record {
    by = record { have = record { registers = refl; size = r.both }; cells = r.each };
    spares = k;
  }

  -- the cells are as they were
  pub still : {a : State} {y : List ℤ} → a.cells ≡ s.cells → y ≡ d
      → Alike s d (Goes a) (Goes (record a { cells = y }))
  still {a} {y} e f =
      goes (subst (λ x. Rows s d x y) (sym e) (subst (λ z. Rows s d s.cells z) (sym f) base))
      (λ k dead behind. ap (λ x. get_or x k (pos 0)) e)

  pub asks : {n : ℕ} {a : State} {y : List ℤ} → Rows s d a.cells y → Spares s a
      → Alike s d (Asks n a) (Asks n (record a { cells = y }))
  asks {n} {a} {y} r k = record {
    by = (refl, record { have = record { registers = refl; size = r.both }; cells = r.each });
    spares = k;
  }

  pub errs : {c : ℤ} → Alike s d (Errs c) (Errs c)
  errs = record { by = refl; spares = tt }

  pub guard : (b c : Bool) (a u : Turned) (e : ℤ) → b ≡ c → (b ≡ true → Alike s d a u)
      → Alike s d (cond b a (Errs e)) (cond c u (Errs e))
  guard true true a u e q f = f refl
  guard true false a u e q f = absurd (cc q)
  guard false true a u e q f = absurd (cc q)
  guard false false a u e q f = errs

  -- ---- tests

  pub live_same : (a : ℕ) → is_live s a ≡ is_live t a
  live_same a =
      ap (λ n. (a % 4 == 0) && (nat_lt a s.hea || (nat_le s.stk a && nat_lt a (4 * n)))) (sym size)

  pub are_same : (a n : ℕ) → are_live s a n ≡ are_live t a n
  are_same a n =
      ap (λ m. (n == 0) || nat_le (a + n) s.hea || (nat_le s.stk a && nat_le (a + n) (4 * m))
      || ((s.hea == s.stk) && nat_le (a + n) (4 * m))) (sym size)

  place : (a : ℕ) → is_live s a ≡ true → lives s (a / 4) ≡ true
  place a e =
      let whole = eqb-true (a % 4) 0 (and_parts (a % 4 == 0) _ e).0 in
      let same : a ≡ 4 * (a / 4) = omega (arith, whole) in
      subst (λ n. is_live s n ≡ true) same e

  within : (a : ℕ) → is_live s a ≡ true → a / 4 < length s.cells
  within a e = let order = o.order in grind (arith, nat_tests)

  same_cell : (a : ℕ) → is_live s a ≡ true → cell_at s a ≡ cell_at t a
  same_cell a e = live (a / 4) (place a e)

  -- ---- loads and stores

  pub load_alike : (a : ℕ) (go : State → ℤ → Turned) → ((x : ℤ) → Alike s d (go s x) (go t x))
      → Alike s d (load s a (go s)) (load t a (go t))
  load_alike a go f =
      guard (is_live s a) (is_live t a) (go s (cell_at s a)) (go t (cell_at t a)) (pos 5) (live_same a)
      (λ e. subst (λ x. Alike s d (go s (cell_at s a)) (go t x)) (same_cell a e) (f (cell_at s a)))

  pub part_alike : (a n : ℕ) (go : State → ℤ → Turned) → ((x : ℤ) → Alike s d (go s x) (go t x))
      → Alike s d (load_part s a n (go s)) (load_part t a n (go t))
  part_alike a n go f =
      let it = λ (x : ℤ). cell_of (part x (a % 4) n) in
      guard (is_live_part s a n) (is_live_part t a n) (go s (it (cell_at s a)))
      (go t (it (cell_at t a))) (pos 5)
      (ap (λ b. (a % n == 0) && b) (live_same (4 * (a / 4))))
      (λ e. subst (λ x. Alike s d (go s (it (cell_at s a))) (go t (it x)))
      (live (a / 4) (and_parts (a % n == 0) _ e).1) (f (it (cell_at s a))))

  set_rows : (i : ℕ) (v : ℤ) → i < length s.cells → Rows s d (set s.cells i v) (set d i v)
  set_rows i v h = record {
    wide = length-set s.cells i v;
    both = omega (arith, length-set s.cells i v, length-set d i v, size);
    each = λ k. by k (k == i) refl;
  }
    where
      by : (k : ℕ) (b : Bool) → (k == i) ≡ b
          → Cell s d k (get_or (set s.cells i v) k (pos 0)) (get_or (set d i v) k (pos 0))
      by k true e =
          let q = eqb-true k i e in
          inl (get_or-set_at s.cells i k v (pos 0) q h
          ∙ sym (get_or-set_at d i k v (pos 0) q (omega (arith, h, size))))
      by k false e =
          let q = eqb-false k i e in
          carry k _ _ (get_or-set_other s.cells i k v (pos 0) q) (get_or-set_other d i k v (pos 0) q)

  spared_set : (i : ℕ) (v : ℤ) → lives s i ≡ true → Spares s (record s { cells = set s.cells i v })
  spared_set i v h = λ k dead behind.
      get_or-set_other s.cells i k v (pos 0)
      (λ q. false≢true (sym dead ∙ subst (λ n. lives s n ≡ true) (sym q) h))

  abbrev pub Stores : (State → Turned) → Type 0
  Stores go =
      (x y : List ℤ) → Rows s d x y → Spares s (record s { cells = x })
      → Alike s d (go (record s { cells = x })) (go (record s { cells = y }))

  pub store_alike : (a : ℕ) (v : ℤ) (go : State → Turned) → Stores go
      → Alike s d (store s a v go) (store t a v go)
  store_alike a v go f =
      guard (is_live s a) (is_live t a) (go (record s { cells = set s.cells (a / 4) v }))
      (go (record s { cells = set d (a / 4) v })) (pos 5) (live_same a)
      (λ e. f _ _ (set_rows (a / 4) v (within a e)) (spared_set (a / 4) v (place a e)))

  pub raise_alike : (a : ℕ) (more : ℤ) (go : State → Turned) → Stores go
      → Alike s d (raise s a more go) (raise t a more go)
  raise_alike a more go f =
      load_alike a (λ u x. store u a (add x more) go) (λ x. store_alike a (add x more) go f)

  pub store_part_alike : (a n : ℕ) (v : ℤ) (go : State → Turned) → Stores go
      → Alike s d (store_part s a n v go) (store_part t a n v go)
  store_part_alike a n v go f =
      let it = λ (x : ℤ). with_part x (a % 4) n (bits_of v) in
      guard (is_live_part s a n) (is_live_part t a n)
      (go (record s { cells = set s.cells (a / 4) (it (cell_at s a)) }))
      (go (record s { cells = set d (a / 4) (it (cell_at t a)) })) (pos 5)
      (ap (λ b. (a % n == 0) && b) (live_same (4 * (a / 4))))
      (λ e. let h = (and_parts (a % n == 0) _ e).1 in
      subst (λ x. Alike s d (go (record s { cells = set s.cells (a / 4) (it (cell_at s a)) }))
      (go (record s { cells = set d (a / 4) (it x) }))) (live (a / 4) h)
      (f _ _ (set_rows (a / 4) (it (cell_at s a)) (lives_within (a / 4) h))
      (spared_set (a / 4) (it (cell_at s a)) h)))
    where
      lives_within : (k : ℕ) → lives s k ≡ true → k < length s.cells
      lives_within k e = let order = o.order in grind (arith, nat_tests)

  -- ---- the stack

  pub push_alike : (v : ℤ) (go : State → Turned)
      → ((x y : List ℤ) → Rows s d x y → Spares s (record s { stk = s.stk - 4; cells = x })
      → Alike s d (go (record s { stk = s.stk - 4; cells = x })) (go (record s { stk = s.stk - 4; cells = y })))
      → Alike s d (push s v go) (push t v go)
  push_alike v go f =
      let i = (s.stk - 4) / 4 in
      guard (nat_le (s.hea + 4) s.stk) (nat_le (s.hea + 4) s.stk)
      (go (record s { stk = s.stk - 4; cells = set s.cells i v }))
      (go (record s { stk = s.stk - 4; cells = set d i v })) (pos 3) refl
      (λ e. f _ _ (set_rows i v (fits (leb-true (s.hea + 4) s.stk e)))
      (spared (leb-true (s.hea + 4) s.stk e)))
    where
      fits : s.hea + 4 ≤ s.stk → (s.stk - 4) / 4 < length s.cells
      fits h = omega (arith, h, o.order.2)

      spared : s.hea + 4 ≤ s.stk
          → Spares s (record s { stk = s.stk - 4; cells = set s.cells ((s.stk - 4) / 4) v })
      spared h = λ k dead behind.
          get_or-set_other s.cells ((s.stk - 4) / 4) k v (pos 0)
          (λ q. false≢true (sym behind
          ∙ top_lives s.hea s.stk (length (set s.cells ((s.stk - 4) / 4) v)) k h o.whole.1
          (omega (arith, length-set s.cells ((s.stk - 4) / 4) v, o.order.2)) q))

  pub pop_alike : (n : ℕ) → s.stk ≤ n → n % 4 ≡ 0 → (go : ℤ → State → Turned)
      → ((x : ℤ) → Alike s d (go x (record s { stk = n + 4 })) (go x (record s { stk = n + 4; cells = d })))
      → Alike s d (pop (record s { stk = n }) go) (pop (record s { stk = n; cells = d }) go)
  pop_alike n low whole go f =
      let it = get_or s.cells (n / 4) (pos 0) in
      guard (nat_lt n (4 * length s.cells)) (nat_lt n (4 * length d))
      (go it (record s { stk = n + 4 }))
      (go (get_or d (n / 4) (pos 0)) (record s { stk = n + 4; cells = d })) (pos 7)
      (ap (λ m. nat_lt n (4 * m)) (sym size))
      (λ e. subst (λ x. Alike s d (go it (record s { stk = n + 4 })) (go x (record s { stk = n + 4; cells = d })))
      (live (n / 4) (there e)) (f it))
    where
      there : nat_lt n (4 * length s.cells) ≡ true → lives s (n / 4) ≡ true
      there e = grind (arith, nat_tests)

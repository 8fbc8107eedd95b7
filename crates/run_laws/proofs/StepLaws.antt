-- Each instruction leaves as many cells as there were, and only HALT halts, with its operand, so that
-- the machine then stands behind it.
use Rattle.std.proofs.Common.{◌≡◌, ◌+◌, ◌-◌, ◌*◌, ◌/◌, ◌%◌, ◌≤◌, ◌==◌, ◌&&◌, ◌||◌, ◌++◌, ℕ, ℤ, pos}
use Rattle.std.proofs.Common.{negsuc, ◌+ℤ◌, List, Bool, true, false, cond, not as no, Option, None}
use Rattle.std.proofs.Common.{Some, length, take, drop, replicate, set, nat_le, nat_lt, refl, ap}
use Rattle.std.proofs.Common.{◌∙◌, arith, length-set}
use Rattle.std.proofs.lemmas.Bool.Decides.{nat_tests}
use Rattle.std.proofs.lemmas.List.{length-replicate}
use Rattle.std.proofs.lemmas.List.FromFn.{length-map-range_with_len}
use Rattle.pawn_cells.specs.Cells.{bits_of, cell_of, add, mul, shl, less, less_eq}
use Rattle.pawn_cells.specs.Cells.{equal, floor_div, floor_rem, unsigned_div, unsigned_rem}
use Rattle.pawn_cells.specs.Cells.{unsigned_less, unsigned_less_eq, is_zero}
use Rattle.amx_ops.specs.declared.amx.Amx.{Amx}
use Rattle.amx_ops.specs.declared.instr.Instr.{Instr}
use Rattle.amx_ops.specs.declared.op.Op.{Op}
use Rattle.amx_ops.specs.declared.op.Op.TheVariants as op
use Rattle.amx_ops.specs.Table.{op_of, is_number}
use Rattle.amx_ops.specs.Instructions.{fetched, is_start}
use Rattle.amx_ops.specs.State.{State, Turned, Goes, Errs, Halts, Asks, stp, first_hea, cell_at}
use Rattle.amx_ops.specs.State.{push, pop, with_margin}
use Rattle.amx_ops.specs.States.{IsState}
use Rattle.amx_ops.specs.Access.{is_live, is_live_part, are_live, load, store, raise, in_frame}
use Rattle.amx_ops.specs.Access.{load_part, store_part, part, with_part, bytes_at, cells_moved}
use Rattle.amx_ops.specs.Access.{cell_moved, copy, compare, order_of, fill}
use Rattle.amx_ops.specs.Effects.{at_next, jump, jump_if, stack_to, heap_to, when_multiple}
use Rattle.amx_ops.specs.Effects.{set_register, returned, swept_if}
use Rattle.amx_ops.specs.Step.{act, act_by, act_on, step}
use Rattle.amx_ops.proofs.StateLaws.{length-put}

-- so many cells, but after an error; and a halt of its kind
abbrev pub Sized : ℕ → (ℤ → State → Type 0) → Turned → Type 0
Sized size halts (Goes s) = length s.cells ≡ size
Sized size halts (Errs code) = Unit {0}
Sized size halts (Halts v s) = (length s.cells ≡ size) × halts v s
Sized size halts (Asks n s) = length s.cells ≡ size

-- ---- parts of the cells

fill_live : (amx : Amx) (s : State) (a n : ℕ) → IsState amx s
    → ((n == 0) || ((a % 4 == 0) && are_live s a n)) ≡ true
    → n / 4 ≤ length s.cells - a / 4
fill_live amx s a n h e = let b = h.order in grind (arith, nat_tests)

length-many : (cells : List ℤ) (v : ℤ) (i n k : ℕ) → n ≤ length cells - i → i + n ≡ k
    → length (take i cells ++ (replicate n v ++ drop k cells)) ≡ length cells
length-many cells v i n k l e =
    let many : length (replicate n v) ≡ n = length-replicate n v in
    length-put cells (replicate n v) i k (omega (arith, many, l)) (omega (arith, many, e))

module _ (size : ℕ) (halts : ℤ → State → Type 0) where
  guard : (b : Bool) (t : Turned) (code : ℤ) → (b ≡ true → Sized size halts t)
      → Sized size halts (cond b t (Errs code))
  guard true t code h = h refl
  guard false t code h = tt

  -- ---- cells

  load_sized : (s : State) (a : ℕ) (go : ℤ → Turned) → ((x : ℤ) → Sized size halts (go x))
      → Sized size halts (load s a go)
  load_sized s a go f = guard (is_live s a) (go (cell_at s a)) (pos 5) (λ e. f (cell_at s a))

  store_sized : (s : State) (a : ℕ) (v : ℤ) (go : State → Turned) → length s.cells ≡ size
      → ((t : State) → length t.cells ≡ size → Sized size halts (go t)) → Sized size halts (store s a v go)
  store_sized s a v go h f =
      guard (is_live s a) (go (record s { cells = set s.cells (a / 4) v })) (pos 5)
      (λ e. f (record s { cells = set s.cells (a / 4) v }) (length-set s.cells (a / 4) v ∙ h))

  raise_sized : (s : State) (a : ℕ) (more : ℤ) (go : State → Turned) → length s.cells ≡ size
      → ((t : State) → length t.cells ≡ size → Sized size halts (go t)) → Sized size halts (raise s a more go)
  raise_sized s a more go h f =
      load_sized s a (λ v. store s a (add v more) go) (λ v. store_sized s a (add v more) go h f)

  load_part_sized : (s : State) (a n : ℕ) (go : ℤ → Turned) → ((x : ℤ) → Sized size halts (go x))
      → Sized size halts (load_part s a n go)
  load_part_sized s a n go f =
      let x = cell_of (part (cell_at s a) (a % 4) n) in
      guard (is_live_part s a n) (go x) (pos 5) (λ e. f x)

  store_part_sized : (s : State) (a n : ℕ) (v : ℤ) (go : State → Turned) → length s.cells ≡ size
      → ((t : State) → length t.cells ≡ size → Sized size halts (go t))
      → Sized size halts (store_part s a n v go)
  store_part_sized s a n v go h f =
      let x = with_part (cell_at s a) (a % 4) n (bits_of v) in
      guard (is_live_part s a n) (go (record s { cells = set s.cells (a / 4) x })) (pos 5)
      (λ e. f (record s { cells = set s.cells (a / 4) x }) (length-set s.cells (a / 4) x ∙ h))

  copy_sized : (s : State) (from to n : ℕ) (go : State → Turned) → length s.cells ≡ size
      → ((t : State) → length t.cells ≡ size → Sized size halts (go t)) → Sized size halts (copy s from to n go)
  copy_sized s from to n go h f =
      guard (are_live s from n && are_live s to n)
      (go (record s { cells = cells_moved s.cells from to n })) (pos 5)
      (λ e. f (record s { cells = cells_moved s.cells from to n })
      (length-map-range_with_len (cell_moved s.cells from to n) 0 (length s.cells) ∙ h))

  compare_sized : (s : State) (at to n : ℕ) (go : ℤ → Turned) → ((x : ℤ) → Sized size halts (go x))
      → Sized size halts (compare s at to n go)
  compare_sized s at to n go f =
      let r = order_of (bytes_at s.cells at n) (bytes_at s.cells to n) in
      guard (are_live s at n && are_live s to n) (go r) (pos 5) (λ e. f r)

  -- ---- the stack

  push_sized : (s : State) (v : ℤ) (go : State → Turned) → length s.cells ≡ size
      → ((t : State) → length t.cells ≡ size → Sized size halts (go t)) → Sized size halts (push s v go)
  push_sized s v go h f =
      let t = record s { stk = s.stk - 4; cells = set s.cells ((s.stk - 4) / 4) v } in
      guard (nat_le (s.hea + 4) s.stk) (go t) (pos 3)
      (λ e. f t (length-set s.cells ((s.stk - 4) / 4) v ∙ h))

  pop_sized : (s : State) (go : ℤ → State → Turned) → length s.cells ≡ size
      → ((x : ℤ) (t : State) → length t.cells ≡ size → Sized size halts (go x t)) → Sized size halts (pop s go)
  pop_sized s go h f =
      guard (nat_lt s.stk (stp s)) (go (cell_at s s.stk) (record s { stk = s.stk + 4 })) (pos 7)
      (λ e. f (cell_at s s.stk) (record s { stk = s.stk + 4 }) h)

  margin_sized : (s : State) (go : State → Turned) → Sized size halts (go s)
      → Sized size halts (with_margin s go)
  margin_sized s go f = guard (nat_le (s.hea + 64) s.stk) (go s) (pos 3) (λ e. f)

  stack_sized : (z : ℤ) (q : ℕ) (s : State) → length s.cells ≡ size → Sized size halts (stack_to z q s)
  stack_sized (pos stk) q s h =
      guard (nat_le stk (stp s)) (with_margin (record s { stk = stk }) (at_next q)) (pos 7)
      (λ e. margin_sized (record s { stk = stk }) (at_next q) h)
  stack_sized (negsuc n) q s h = tt

  heap_sized : (amx : Amx) (z : ℤ) (q : ℕ) (s : State) → length s.cells ≡ size
      → Sized size halts (heap_to amx z q s)
  heap_sized amx (pos hea) q s h =
      guard (nat_le (first_hea amx) hea) (with_margin (record s { hea = hea }) (at_next q)) (pos 8)
      (λ e. margin_sized (record s { hea = hea }) (at_next q) h)
  heap_sized amx (negsuc n) q s h = tt

  jump_sized : (amx : Amx) (at : ℕ) (s : State) → length s.cells ≡ size → Sized size halts (jump amx at s)
  jump_sized amx at s h = guard (is_start amx.code at) (at_next at s) (pos 6) (λ e. h)

  set_by : (amx : Amx) (a b c : Bool) (q : ℕ) (s : State) → length s.cells ≡ size
      → Sized size halts (cond a (when_multiple s.pri (heap_to amx s.pri q s))
      (cond b (when_multiple s.pri (stack_to s.pri q s))
      (cond c (at_next q (record s { frm = bits_of s.pri })) (jump amx (bits_of s.pri) s))))
  set_by amx true b c q s h =
      guard (bits_of s.pri % 4 == 0) (heap_to amx s.pri q s) (pos 5)
      (λ e. heap_sized amx s.pri q s h)
  set_by amx false true c q s h =
      guard (bits_of s.pri % 4 == 0) (stack_to s.pri q s) (pos 5) (λ e. stack_sized s.pri q s h)
  set_by amx false false true q s h = h
  set_by amx false false false q s h = jump_sized amx (bits_of s.pri) s h

  set_sized : (amx : Amx) (q n : ℕ) (s : State) → length s.cells ≡ size
      → Sized size halts (set_register amx q n s)
  set_sized amx q n s h = set_by amx (n == 2) (n == 4) (n == 5) q s h

  returned_sized : (amx : Amx) (frm cip count : ℕ) (s : State) → length s.cells ≡ size
      → Sized size halts (returned amx frm cip count s)
  returned_sized amx frm cip count s h =
      let t = record s { frm = frm; cip = cip; stk = s.stk + count } in
      guard (count % 4 == 0) (cond (nat_le (s.stk + count) (stp s))
      (cond (is_start amx.code cip) (Goes t) (Errs (pos 6))) (Errs (pos 7))) (pos 5)
      (λ m. guard (nat_le (s.stk + count) (stp s))
      (cond (is_start amx.code cip) (Goes t) (Errs (pos 6))) (pos 7)
      (λ n. guard (is_start amx.code cip) (Goes t) (pos 6) (λ e. h)))

  divide_sized : (quotient rest : ℤ) (q : ℕ) (s : State) (b : Bool) → length s.cells ≡ size
      → Sized size halts (cond b (Errs (pos 11)) (at_next q (record s { pri = quotient; alt = rest })))
  divide_sized quotient rest q s true h = tt
  divide_sized quotient rest q s false h = h

  fill_sized : (amx : Amx) (s : State) (a n : ℕ) (v : ℤ) (go : State → Turned) → IsState amx s
      → length s.cells ≡ size
      → ((t : State) → length t.cells ≡ size → Sized size halts (go t)) → Sized size halts (fill s a n v go)
  fill_sized amx s a n v go is h f =
      let t =
      record s {
        cells = take (a / 4) s.cells
            ++ (replicate (n / 4) v ++ drop (a / 4 + n / 4) s.cells);
      } in
      guard ((n == 0) || ((a % 4 == 0) && are_live s a n)) (go t) (pos 5)
      (λ e. f t (length-many s.cells v (a / 4) (n / 4) (a / 4 + n / 4)
      (fill_live amx s a n is e) refl ∙ h))

halted_sized : (amx : Amx) (b : Bool) (s : State) → IsState amx s
    → length (swept_if b s).cells ≡ length s.cells
halted_sized amx true s h =
    let a = h.whole in
    let b = h.order in
    length-many s.cells (pos 0) (s.hea / 4) (s.stk / 4 - s.hea / 4) (s.stk / 4) (omega arith)
    (omega arith)
halted_sized amx false s h = refl

-- the instruction at the state s, with the address q of the next one
module _ (amx : Amx) (q : ℕ) (s : State) (h : IsState amx s) (halts : ℤ → State → Type 0) where
  abbrev size : ℕ
  size = length s.cells

  load_pri : (a : ℕ) → Sized size halts (load s a (λ x. at_next q (record s { pri = x })))
  load_pri a = load_sized size halts s a (λ x. at_next q (record s { pri = x })) (λ x. refl)

  load_alt : (a : ℕ) → Sized size halts (load s a (λ x. at_next q (record s { alt = x })))
  load_alt a = load_sized size halts s a (λ x. at_next q (record s { alt = x })) (λ x. refl)

  lref_pri : (a : ℕ) → Sized size halts
      (load s a (λ b. load s (bits_of b) (λ x. at_next q (record s { pri = x }))))
  lref_pri a =
      load_sized size halts s a (λ b. load s (bits_of b) (λ x. at_next q (record s { pri = x })))
      (λ b. load_pri (bits_of b))

  lref_alt : (a : ℕ) → Sized size halts
      (load s a (λ b. load s (bits_of b) (λ x. at_next q (record s { alt = x }))))
  lref_alt a =
      load_sized size halts s a (λ b. load s (bits_of b) (λ x. at_next q (record s { alt = x })))
      (λ b. load_alt (bits_of b))

  put : (a : ℕ) (v : ℤ) → Sized size halts (store s a v (at_next q))
  put a v = store_sized size halts s a v (at_next q) refl (λ t e. e)

  sref : (a : ℕ) (v : ℤ) → Sized size halts (load s a (λ b. store s (bits_of b) v (at_next q)))
  sref a v = load_sized size halts s a (λ b. store s (bits_of b) v (at_next q)) (λ b. put (bits_of b) v)

  pushes : (v : ℤ) → Sized size halts (push s v (at_next q))
  pushes v = push_sized size halts s v (at_next q) refl (λ t e. e)

  jumps : (b : Bool) (v : ℤ) → Sized size halts (jump_if b (bits_of v) q s)
  jumps true v = refl
  jumps false v = refl

  swap_by : (x : ℤ) (go : ℤ → State → State)
      → ((y : ℤ) (t : State) → length t.cells ≡ size → length (go y t).cells ≡ size)
      → Sized size halts (load s s.stk (λ y. store s s.stk x (λ t. at_next q (go y t))))
  swap_by x go f =
      load_sized size halts s s.stk (λ y. store s s.stk x (λ t. at_next q (go y t)))
      (λ y. store_sized size halts s s.stk x (λ t. at_next q (go y t)) refl (λ t e. f y t e))

  proc : Sized size halts (push s (cell_of s.frm)
      (λ t. with_margin t (λ u. at_next q (record u { frm = u.stk }))))
  proc =
      push_sized size halts s (cell_of s.frm)
      (λ t. with_margin t (λ u. at_next q (record u { frm = u.stk }))) refl
      (λ t e. margin_sized size halts t (λ u. at_next q (record u { frm = u.stk })) e)

  ret : Sized size halts (pop s (λ f t. pop t
      (λ a u. jump amx (bits_of a) (record u { frm = bits_of f }))))
  ret =
      pop_sized size halts s (λ f t. pop t (λ a u. jump amx (bits_of a) (record u { frm = bits_of f })))
      refl
      (λ f t e. pop_sized size halts t (λ a u. jump amx (bits_of a) (record u { frm = bits_of f })) e
      (λ a u i. jump_sized size halts amx (bits_of a) (record u { frm = bits_of f }) i))

  retn : Sized size halts (pop s (λ f t. pop t
      (λ a u. pop u (λ n w. returned amx (bits_of f) (bits_of a) (bits_of n) w))))
  retn =
      pop_sized size halts s (λ f t. pop t
      (λ a u. pop u (λ n w. returned amx (bits_of f) (bits_of a) (bits_of n) w))) refl
      (λ f t e. pop_sized size halts t (λ a u. pop u
      (λ n w. returned amx (bits_of f) (bits_of a) (bits_of n) w)) e
      (λ a u i. pop_sized size halts u (λ n w. returned amx (bits_of f) (bits_of a) (bits_of n) w) i
      (λ n w j. returned_sized size halts amx (bits_of f) (bits_of a) (bits_of n) w j)))

  bounds_by : (b : Bool) → Sized size halts (cond b (Errs (pos 4)) (at_next q s))
  bounds_by true = tt
  bounds_by false = refl

  sized : (o : Op) (v : ℤ)
      → (o ≡ op.Halt → halts v (record (swept_if (is_number 12 v) s) { cip = q }))
      → Sized size halts (act amx o v q s)
  sized op.LoadPri v f = load_pri (bits_of v)
  sized op.LoadAlt v f = load_alt (bits_of v)
  sized op.LoadSPri v f = load_pri (in_frame s v)
  sized op.LoadSAlt v f = load_alt (in_frame s v)
  sized op.LrefPri v f = lref_pri (bits_of v)
  sized op.LrefAlt v f = lref_alt (bits_of v)
  sized op.LrefSPri v f = lref_pri (in_frame s v)
  sized op.LrefSAlt v f = lref_alt (in_frame s v)
  sized op.LoadI v f = load_pri (bits_of s.pri)
  sized op.LodbI v f =
      load_part_sized size halts s (bits_of s.pri) (bits_of v) (λ x. at_next q (record s { pri = x }))
      (λ x. refl)
  sized op.ConstPri v f = refl
  sized op.ConstAlt v f = refl
  sized op.AddrPri v f = refl
  sized op.AddrAlt v f = refl
  sized op.StorPri v f = put (bits_of v) s.pri
  sized op.StorAlt v f = put (bits_of v) s.alt
  sized op.StorSPri v f = put (in_frame s v) s.pri
  sized op.StorSAlt v f = put (in_frame s v) s.alt
  sized op.SrefPri v f = sref (bits_of v) s.pri
  sized op.SrefAlt v f = sref (bits_of v) s.alt
  sized op.SrefSPri v f = sref (in_frame s v) s.pri
  sized op.SrefSAlt v f = sref (in_frame s v) s.alt
  sized op.StorI v f = put (bits_of s.alt) s.pri
  sized op.StrbI v f =
      store_part_sized size halts s (bits_of s.alt) (bits_of v) s.pri (at_next q) refl (λ t e. e)
  -- addresses and registers
  sized op.Lidx v f = load_pri (bits_of (add s.alt (mul (pos 4) s.pri)))
  sized op.LidxB v f = load_pri (bits_of (add s.alt (shl s.pri v)))
  sized op.Idxaddr v f = refl
  sized op.IdxaddrB v f = refl
  sized op.AlignPri v f = refl
  sized op.AlignAlt v f = refl
  sized op.Lctrl v f = refl
  sized op.Sctrl v f = set_sized size halts amx q (bits_of v) s refl
  sized op.MovePri v f = refl
  sized op.MoveAlt v f = refl
  sized op.Xchg v f = refl
  -- the stack, the heap and frames
  sized op.PushPri v f = pushes s.pri
  sized op.PushAlt v f = pushes s.alt
  sized op.PushC v f = pushes v
  sized op.Push v f = load_sized size halts s (bits_of v) (λ x. push s x (at_next q)) pushes
  sized op.PushS v f = load_sized size halts s (in_frame s v) (λ x. push s x (at_next q)) pushes
  sized op.PopPri v f = pop_sized size halts s (λ x t. at_next q (record t { pri = x })) refl (λ x t e. e)
  sized op.PopAlt v f = pop_sized size halts s (λ x t. at_next q (record t { alt = x })) refl (λ x t e. e)
  sized op.Stack v f = stack_sized size halts (pos s.stk +ℤ v) q (record s { alt = cell_of s.stk }) refl
  sized op.Heap v f = heap_sized size halts amx (pos s.hea +ℤ v) q (record s { alt = cell_of s.hea }) refl
  sized op.Proc v f = proc
  sized op.Ret v f = ret
  sized op.Retn v f = retn
  -- calls and jumps
  sized op.Call v f = push_sized size halts s (cell_of q) (λ t. at_next (bits_of v) t) refl (λ t e. e)
  sized op.CallPri v f =
      push_sized size halts s (cell_of q) (λ t. jump amx (bits_of s.pri) t) refl
      (λ t e. jump_sized size halts amx (bits_of s.pri) t e)
  sized op.Jump v f = refl
  sized op.Jrel v f = refl
  sized op.Jzer v f = jumps (is_zero s.pri) v
  sized op.Jnz v f = jumps (no (is_zero s.pri)) v
  sized op.Jeq v f = jumps (equal s.pri s.alt) v
  sized op.Jneq v f = jumps (no (equal s.pri s.alt)) v
  sized op.Jless v f = jumps (unsigned_less s.pri s.alt) v
  sized op.Jleq v f = jumps (unsigned_less_eq s.pri s.alt) v
  sized op.Jgrtr v f = jumps (unsigned_less s.alt s.pri) v
  sized op.Jgeq v f = jumps (unsigned_less_eq s.alt s.pri) v
  sized op.Jsless v f = jumps (less s.pri s.alt) v
  sized op.Jsleq v f = jumps (less_eq s.pri s.alt) v
  sized op.Jsgrtr v f = jumps (less s.alt s.pri) v
  sized op.Jsgeq v f = jumps (less_eq s.alt s.pri) v
  -- arithmetic
  sized op.Shl v f = refl
  sized op.Shr v f = refl
  sized op.Sshr v f = refl
  sized op.ShlCPri v f = refl
  sized op.ShlCAlt v f = refl
  sized op.ShrCPri v f = refl
  sized op.ShrCAlt v f = refl
  sized op.Smul v f = refl
  sized op.Sdiv v f =
      divide_sized size halts (floor_div s.pri s.alt) (floor_rem s.pri s.alt) q s (is_zero s.alt) refl
  sized op.SdivAlt v f =
      divide_sized size halts (floor_div s.alt s.pri) (floor_rem s.alt s.pri) q s (is_zero s.pri) refl
  sized op.Umul v f = refl
  sized op.Udiv v f =
      divide_sized size halts (unsigned_div s.pri s.alt) (unsigned_rem s.pri s.alt) q s
      (is_zero s.alt) refl
  sized op.UdivAlt v f =
      divide_sized size halts (unsigned_div s.alt s.pri) (unsigned_rem s.alt s.pri) q s
      (is_zero s.pri) refl
  sized op.Add v f = refl
  sized op.Sub v f = refl
  sized op.SubAlt v f = refl
  sized op.And v f = refl
  sized op.Or v f = refl
  sized op.Xor v f = refl
  sized op.Not v f = refl
  sized op.Neg v f = refl
  sized op.Invert v f = refl
  sized op.AddC v f = refl
  sized op.SmulC v f = refl
  -- cells set, tested and counted
  sized op.ZeroPri v f = refl
  sized op.ZeroAlt v f = refl
  sized op.Zero v f = put (bits_of v) (pos 0)
  sized op.ZeroS v f = put (in_frame s v) (pos 0)
  sized op.SignPri v f = refl
  sized op.SignAlt v f = refl
  sized op.Eq v f = refl
  sized op.Neq v f = refl
  sized op.Less v f = refl
  sized op.Leq v f = refl
  sized op.Grtr v f = refl
  sized op.Geq v f = refl
  sized op.Sless v f = refl
  sized op.Sleq v f = refl
  sized op.Sgrtr v f = refl
  sized op.Sgeq v f = refl
  sized op.EqCPri v f = refl
  sized op.EqCAlt v f = refl
  sized op.IncPri v f = refl
  sized op.IncAlt v f = refl
  sized op.Inc v f = raise_sized size halts s (bits_of v) (pos 1) (at_next q) refl (λ t e. e)
  sized op.IncS v f = raise_sized size halts s (in_frame s v) (pos 1) (at_next q) refl (λ t e. e)
  sized op.IncI v f = raise_sized size halts s (bits_of s.pri) (pos 1) (at_next q) refl (λ t e. e)
  sized op.DecPri v f = refl
  sized op.DecAlt v f = refl
  sized op.Dec v f = raise_sized size halts s (bits_of v) (negsuc 0) (at_next q) refl (λ t e. e)
  sized op.DecS v f = raise_sized size halts s (in_frame s v) (negsuc 0) (at_next q) refl (λ t e. e)
  sized op.DecI v f = raise_sized size halts s (bits_of s.pri) (negsuc 0) (at_next q) refl (λ t e. e)
  -- blocks of bytes
  sized op.Movs v f =
      copy_sized size halts s (bits_of s.pri) (bits_of s.alt) (bits_of v) (at_next q) refl (λ t e. e)
  sized op.Cmps v f =
      compare_sized size halts s (bits_of s.alt) (bits_of s.pri) (bits_of v)
      (λ x. at_next q (record s { pri = x })) (λ x. refl)
  sized op.Fill v f =
      fill_sized size halts amx s (bits_of s.alt) (bits_of v) s.pri (at_next q) h refl (λ t e. e)
  -- the host, case tables and others
  sized op.Halt v f = (halted_sized amx (is_number 12 v) s h, f refl)
  sized op.Bounds v f = bounds_by (nat_lt (bits_of v) (bits_of s.pri))
  sized op.SysreqPri v f =
      guard size halts (nat_lt (bits_of s.pri) (length amx.natives))
      (Asks (bits_of s.pri) (record s { cip = q })) (pos 19) (λ e. refl)
  sized op.SysreqC v f = refl
  sized op.JumpPri v f = jump_sized size halts amx (bits_of s.pri) s refl
  sized op.Switch v f = refl
  sized op.Casetbl v f = tt
  sized op.SwapPri v f = swap_by s.pri (λ y t. record t { pri = y }) (λ y t e. e)
  sized op.SwapAlt v f = swap_by s.alt (λ y t. record t { alt = y }) (λ y t e. e)
  sized op.PushAdr v f = pushes (cell_of (in_frame s v))
  sized op.Nop v f = refl
  sized op.Break v f = refl

-- ---- the step

-- the machine halted at an instruction of the code, with a value, and stands behind it
pub record IsHalting (amx : Amx) (s : State) (v : ℤ) (t : State) : Type 0 where
  pub instr : Instr
  pub here : fetched amx.code s.cip ≡ Some instr
  pub halts : op_of instr.op ≡ Some op.Halt
  pub operand : instr.operand ≡ v
  pub behind : t.cip ≡ s.cip + 4 * instr.cells

module _ (amx : Amx) (s : State) (h : IsState amx s) where
  acts : (i : Instr) (o : Option Op) → fetched amx.code s.cip ≡ Some i → op_of i.op ≡ o
      → Sized (length s.cells) (IsHalting amx s) (act_by amx o i.operand (s.cip + 4 * i.cells) s)
  acts i None here e = tt
  acts i (Some o) here e =
      sized amx (s.cip + 4 * i.cells) s h (IsHalting amx s) o i.operand
      (λ halt. record {
        instr = i;
        here = here;
        halts = e ∙ ap Some halt;
        operand = refl;
        behind = refl;
      })

  by : (o : Option Instr) → fetched amx.code s.cip ≡ o
      → Sized (length s.cells) (IsHalting amx s) (act_on amx o s)
  by None here = tt
  by (Some i) here = acts i (op_of i.op) here refl

  pub step_sized : Sized (length s.cells) (IsHalting amx s) (step amx s)
  step_sized = by (fetched amx.code s.cip) refl

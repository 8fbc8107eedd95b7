-- The effects of instructions keep a state in its form.
use Rattle.std.proofs.Common.{◌≡◌, ◌+◌, ◌*◌, ◌/◌, ◌%◌, ◌^◌, ◌<◌, ◌≤◌, ◌==◌, ℕ, zero, suc, ℤ, pos}
use Rattle.std.proofs.Common.{negsuc, ◌+ℤ◌, List, [], ◌∷◌, Bool, true, false, cond, All, length}
use Rattle.std.proofs.Common.{drop, nat_le, nat_lt, refl, subst, ap, sym, ◌∙◌, arith, leb-true}
use Rattle.std.proofs.lemmas.Int.{ints}
use Rattle.std.proofs.lemmas.Bool.{eqb-true, false≢true}
use Rattle.std.proofs.lemmas.List.Elements.{All-head, All-tail, All-drop}
use Rattle.pawn_cells.specs.Cells.{IsCell, bits_of, cell_of, equal, is_zero, floor_div, floor_rem}
use Rattle.pawn_cells.specs.Cells.{unsigned_div, unsigned_rem}
use Rattle.amx_ops.specs.declared.amx.Amx.{Amx}
use Rattle.amx_ops.specs.Table.{is_number}
use Rattle.amx_ops.specs.Instructions.{is_start}
use Rattle.amx_ops.specs.State.{State, Turned, Goes, Errs, Halts, Asks, stp, first_hea, with_margin}
use Rattle.amx_ops.specs.State.{swept}
use Rattle.amx_ops.specs.States.{IsState}
use Rattle.amx_ops.specs.Keeps.{Leaves}
use Rattle.amx_ops.specs.Effects.{at_next, jump, jump_if, paired, case_in, case_of, register}
use Rattle.amx_ops.specs.Effects.{divide, stack_to, heap_to, when_multiple, set_register, returned}
use Rattle.amx_ops.specs.Effects.{swept_if, ask}
use Rattle.pawn_cells.proofs.CellLaws.{cell_of_cell, wrap_cell, bits_fit, small_cell, floor_rem_cell}
use Rattle.amx_ops.proofs.StateLaws.{guard, with_pri, with_alt, with_frm, with_cip, with_stk}
use Rattle.amx_ops.proofs.StateLaws.{with_hea, swept_keeps, swept_same}

-- ---- numbers

-- an address in the code's cells has 32 bits
paired_fits : (cells : List ℤ) (v : ℤ) (n other : ℕ) → All IsCell cells → other < 2 ^ 32
    → paired cells v n other < 2 ^ 32
paired_fits cells v zero other h e = e
paired_fits [] v (suc n) other h e = e
paired_fits (x ∷ []) v (suc n) other h e = e
paired_fits (x ∷ at ∷ cells) v (suc n) other h e =
    let rest : All IsCell (at ∷ cells) = All-tail IsCell x (at ∷ cells) h in
    either (equal x v) (bits_of at) (paired cells v n other)
    (bits_fit at (All-head IsCell at cells rest))
    (paired_fits cells v n other (All-tail IsCell at cells rest) e)
  where
    either : (b : Bool) (m n : ℕ) → m < 2 ^ 32 → n < 2 ^ 32 → cond b m n < 2 ^ 32
    either true m n h k = h
    either false m n h k = k

case_fits : (cells : List ℤ) (v : ℤ) → All IsCell cells → case_in cells v < 2 ^ 32
case_fits [] v h = omega arith
case_fits (count ∷ []) v h = omega arith
case_fits (count ∷ default ∷ pairs) v h =
    let rest : All IsCell (default ∷ pairs) = All-tail IsCell count (default ∷ pairs) h in
    paired_fits pairs v (bits_of count) (bits_of default) (All-tail IsCell default pairs rest)
    (bits_fit default (All-head IsCell default pairs rest))

pub case_of_fits : (amx : Amx) (at : ℕ) (v : ℤ) → All IsCell amx.code → case_of amx at v < 2 ^ 32
case_of_fits amx at v h =
    case_fits (drop (at / 4 + 1) amx.code) v (All-drop IsCell (at / 4 + 1) amx.code h)

-- the bits of a multiple of 4 tell it of the whole number
sum_multiple : (a : ℕ) (v : ℤ) (n : ℕ) → a % 4 ≡ 0 → bits_of v % 4 ≡ 0 → IsCell v
    → pos a +ℤ v ≡ pos n → n % 4 ≡ 0
sum_multiple a (pos k) n e h c q = omega (arith, ints)
sum_multiple a (negsuc k) n e h c q = omega (arith, ints)

module _ (amx : Amx) where
  pub at_keeps : (q : ℕ) (s : State) → q < 2 ^ 32 → IsState amx s → Leaves amx (at_next q s)
  at_keeps q s c h = with_cip amx s q c h

  -- ---- jumps

  pub jump_keeps : (at : ℕ) (s : State) → at < 2 ^ 32 → IsState amx s → Leaves amx (jump amx at s)
  jump_keeps at s c h =
      guard amx (is_start amx.code at) (at_next at s) (pos 6) (λ e. at_keeps at s c h)

  pub jump_if_keeps : (b : Bool) (at q : ℕ) (s : State) → at < 2 ^ 32 → q < 2 ^ 32 → IsState amx s
      → Leaves amx (jump_if b at q s)
  jump_if_keeps true at q s c d h = at_keeps at s c h
  jump_if_keeps false at q s c d h = at_keeps q s d h

  -- ---- registers

  pub register_cell : (q n : ℕ) (s : State) → IsCell (register amx q n s)
  register_cell q zero s = small_cell 0 (omega arith)
  register_cell q (suc zero) s = cell_of_cell (4 * length amx.code)
  register_cell q (suc (suc zero)) s = cell_of_cell s.hea
  register_cell q (suc (suc (suc zero))) s = cell_of_cell (stp s)
  register_cell q (suc (suc (suc (suc zero)))) s = cell_of_cell s.stk
  register_cell q (suc (suc (suc (suc (suc zero))))) s = cell_of_cell s.frm
  register_cell q (suc (suc (suc (suc (suc (suc zero)))))) s = cell_of_cell q
  register_cell q (suc (suc (suc (suc (suc (suc (suc n))))))) s = small_cell 0 (omega arith)

  divide_by : (a d quotient rest : ℤ) (q : ℕ) (s : State) (b : Bool)
      → (b ≡ false → IsCell quotient × IsCell rest) → q < 2 ^ 32 → IsState amx s
      → Leaves amx (cond b (Errs (pos 11)) (at_next q (record s { pri = quotient; alt = rest })))
  divide_by a d quotient rest q s true f c h = tt
  divide_by a d quotient rest q s false f c h =
      let g = f refl in
      at_keeps q (record s { pri = quotient; alt = rest }) c
      (with_alt amx (record s { pri = quotient }) rest g.1 (with_pri amx s quotient g.0 h))

  pub floor_keeps : (a d : ℤ) (q : ℕ) (s : State) → IsCell a → IsCell d → q < 2 ^ 32 → IsState amx s
      → Leaves amx (divide floor_div floor_rem a d q s)
  floor_keeps a d q s f g c h =
      divide_by a d (floor_div a d) (floor_rem a d) q s (is_zero d)
      (λ e. (wrap_cell _, floor_rem_cell a d f g e)) c h

  pub unsigned_keeps : (a d : ℤ) (q : ℕ) (s : State) → q < 2 ^ 32 → IsState amx s
      → Leaves amx (divide unsigned_div unsigned_rem a d q s)
  unsigned_keeps a d q s c h =
      divide_by a d (unsigned_div a d) (unsigned_rem a d) q s (is_zero d)
      (λ e. (cell_of_cell _, cell_of_cell _)) c h

  -- ---- stack and heap

  pub margin_keeps : (s : State) (go : State → Turned) → (s.hea + 64 ≤ s.stk → Leaves amx (go s))
      → Leaves amx (with_margin s go)
  margin_keeps s go f =
      guard amx (nat_le (s.hea + 64) s.stk) (go s) (pos 3) (λ e. f (leb-true (s.hea + 64) s.stk e))

  pub stack_keeps : (z : ℤ) (q : ℕ) (s : State) → ((n : ℕ) → z ≡ pos n → n % 4 ≡ 0) → q < 2 ^ 32
      → IsState amx s → Leaves amx (stack_to z q s)
  stack_keeps (pos stk) q s f c h =
      guard amx (nat_le stk (stp s)) (with_margin (record s { stk = stk }) (at_next q)) (pos 7)
      (λ e. margin_keeps (record s { stk = stk }) (at_next q)
      (λ k. at_keeps q (record s { stk = stk }) c
      (with_stk amx s stk (f stk refl) (omega (arith, k)) (leb-true stk (stp s) e) h)))
  stack_keeps (negsuc n) q s f c h = tt

  pub heap_keeps : (z : ℤ) (q : ℕ) (s : State) → ((n : ℕ) → z ≡ pos n → n % 4 ≡ 0) → q < 2 ^ 32
      → IsState amx s → Leaves amx (heap_to amx z q s)
  heap_keeps (pos hea) q s f c h =
      guard amx (nat_le (first_hea amx) hea)
      (with_margin (record s { hea = hea }) (at_next q)) (pos 8)
      (λ e. margin_keeps (record s { hea = hea }) (at_next q)
      (λ k. at_keeps q (record s { hea = hea }) c
      (with_hea amx s hea (f hea refl) (leb-true (first_hea amx) hea e) (omega (arith, k)) h)))
  heap_keeps (negsuc n) q s f c h = tt

  pub stack_by : (v : ℤ) (q : ℕ) (s : State) → IsCell v → bits_of v % 4 ≡ 0 → q < 2 ^ 32
      → IsState amx s
      → Leaves amx (stack_to (pos s.stk +ℤ v) q (record s { alt = cell_of s.stk }))
  stack_by v q s f e c h =
      stack_keeps (pos s.stk +ℤ v) q (record s { alt = cell_of s.stk })
      (λ n k. sum_multiple s.stk v n h.whole.1 e f k) c
      (with_alt amx s (cell_of s.stk) (cell_of_cell s.stk) h)

  pub heap_by : (v : ℤ) (q : ℕ) (s : State) → IsCell v → bits_of v % 4 ≡ 0 → q < 2 ^ 32
      → IsState amx s
      → Leaves amx (heap_to amx (pos s.hea +ℤ v) q (record s { alt = cell_of s.hea }))
  heap_by v q s f e c h =
      heap_keeps (pos s.hea +ℤ v) q (record s { alt = cell_of s.hea })
      (λ n k. sum_multiple s.hea v n h.whole.0 e f k) c
      (with_alt amx s (cell_of s.hea) (cell_of_cell s.hea) h)

  bits_are : (z : ℤ) (n : ℕ) → bits_of z % 4 ≡ 0 → z ≡ pos n → n % 4 ≡ 0
  bits_are z n e k = subst (λ x. bits_of x % 4 ≡ 0) k e

  -- a register is set, by three tests of its number
  set_by : (a b c : Bool) (q : ℕ) (s : State) → q < 2 ^ 32 → IsState amx s
      → Leaves amx (cond a (when_multiple s.pri (heap_to amx s.pri q s))
      (cond b (when_multiple s.pri (stack_to s.pri q s))
      (cond c (at_next q (record s { frm = bits_of s.pri })) (jump amx (bits_of s.pri) s))))
  set_by true b c q s d h =
      guard amx (bits_of s.pri % 4 == 0) (heap_to amx s.pri q s) (pos 5)
      (λ e. heap_keeps s.pri q s (λ n k. bits_are s.pri n (eqb-true (bits_of s.pri % 4) 0 e) k) d h)
  set_by false true c q s d h =
      guard amx (bits_of s.pri % 4 == 0) (stack_to s.pri q s) (pos 5)
      (λ e. stack_keeps s.pri q s (λ n k. bits_are s.pri n (eqb-true (bits_of s.pri % 4) 0 e) k) d
      h)
  set_by false false true q s d h =
      at_keeps q (record s { frm = bits_of s.pri }) d
      (with_frm amx s (bits_of s.pri) (bits_fit s.pri h.pri) h)
  set_by false false false q s d h = jump_keeps (bits_of s.pri) s (bits_fit s.pri h.pri) h

  pub set_keeps : (q n : ℕ) (s : State) → q < 2 ^ 32 → IsState amx s
      → Leaves amx (set_register amx q n s)
  set_keeps q n s d h = set_by (n == 2) (n == 4) (n == 5) q s d h

  pub returned_keeps : (frm cip count : ℕ) (s : State) → frm < 2 ^ 32 → cip < 2 ^ 32 → IsState amx s
      → Leaves amx (returned amx frm cip count s)
  returned_keeps frm cip count s c d h =
      let a = h.whole in
      let b = h.order in
      guard amx (count % 4 == 0) _ (pos 5) (λ m.
      let m' = eqb-true (count % 4) 0 m in
      guard amx (nat_le (s.stk + count) (stp s))
      (cond (is_start amx.code cip) (Goes
      (record s { frm = frm; cip = cip; stk = s.stk + count })) (Errs (pos 6)))
      (pos 7) (λ n.
      let n' = leb-true (s.stk + count) (stp s) n in
      guard amx (is_start amx.code cip)
      (Goes (record s { frm = frm; cip = cip; stk = s.stk + count })) (pos 6) (λ e.
      with_stk amx (record s { frm = frm; cip = cip }) (s.stk + count) (omega arith)
      (omega arith) n'
      (with_cip amx (record s { frm = frm }) cip d (with_frm amx s frm c h)))))

  -- ---- the host

  halted_by : (v : ℤ) (b : Bool) (q : ℕ) (s : State) → is_number 12 v ≡ b → q < 2 ^ 32
      → IsState amx s
      → Leaves amx (Halts v (record (swept_if b s) { cip = q }))
  halted_by v true q s e c h = (
    with_cip amx (swept s) q c (swept_keeps amx s h),
    λ sleep. ap (λ (t : State). record t { cip = q }) (swept_same amx s h),
  )
  halted_by v false q s e c h =
      (with_cip amx s q c h, λ sleep. absurd (false≢true (sym e ∙ ap (is_number 12) sleep)))

  pub halted_keeps : (v : ℤ) (q : ℕ) (s : State) → q < 2 ^ 32 → IsState amx s
      → Leaves amx (Halts v (record (swept_if (is_number 12 v) s) { cip = q }))
  halted_keeps v q s c h = halted_by v (is_number 12 v) q s refl c h

  pub ask_keeps : (n : ℕ) (s : State) → IsState amx s → Leaves amx (ask amx n s)
  ask_keeps n s h = guard amx (nat_lt n (length amx.natives)) (Asks n s) (pos 19) (λ e. h)

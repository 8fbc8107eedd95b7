-- Each instruction keeps a state in its form.
use Rattle.std.proofs.Common.{◌≡◌, ◌+◌, ◌*◌, ◌%◌, ◌^◌, ◌<◌, ℕ, ℤ, pos, negsuc, Bool, true, false}
use Rattle.std.proofs.Common.{cond, not as no, All, Option, None, Some, length, nat_lt, refl, subst}
use Rattle.std.proofs.Common.{arith}
use Rattle.std.proofs.lemmas.Bool.{eqb-true}
use Rattle.pawn_cells.specs.Cells.{IsCell, bits_of, cell_of, wrapped_sum, add, sub, mul, neg, and}
use Rattle.pawn_cells.specs.Cells.{or, xor, invert, shl, shr, ushr, less, less_eq, equal}
use Rattle.pawn_cells.specs.Cells.{unsigned_less, unsigned_less_eq, is_zero, truth}
use Rattle.amx_ops.specs.declared.amx.Amx.{Amx}
use Rattle.amx_ops.specs.declared.instr.Instr.{Instr}
use Rattle.amx_ops.specs.declared.op.Op.{Op}
use Rattle.amx_ops.specs.declared.op.Op.TheVariants as op
use Rattle.amx_ops.specs.declared.table.Operand.{Operand}
use Rattle.amx_ops.specs.declared.table.Operand.TheVariants as operand
use Rattle.amx_ops.specs.Table.{op_of, operand_of}
use Rattle.amx_ops.specs.Instructions.{fetched}
use Rattle.amx_ops.specs.Valid.{operand_fault, is_multiple, unless, proper, ByteCount}
use Rattle.amx_ops.specs.State.{State, Errs, push, pop, with_margin}
use Rattle.amx_ops.specs.States.{IsState}
use Rattle.amx_ops.specs.Keeps.{Leaves, IsRunnable}
use Rattle.amx_ops.specs.Access.{load, store, in_frame}
use Rattle.amx_ops.specs.Effects.{at_next, jump, jump_if, case_of, register, returned}
use Rattle.amx_ops.specs.Step.{act, act_by, act_on, step}
use Rattle.pawn_cells.proofs.CellLaws.{cell_of_cell, wrap_cell, bits_fit, sum_fits, shr_cell}
use Rattle.pawn_cells.proofs.CellLaws.{truth_cell}
use Rattle.amx_ops.proofs.FetchLaws.{fetched_is, fetched_within, all_proper, operand_proper}
use Rattle.amx_ops.proofs.StateLaws.{with_pri, with_alt, with_frm, load_keeps, store_keeps}
use Rattle.amx_ops.proofs.StateLaws.{raise_keeps, load_part_keeps, store_part_keeps, copy_keeps}
use Rattle.amx_ops.proofs.StateLaws.{compare_keeps, fill_keeps, push_keeps, pop_keeps}
use Rattle.amx_ops.proofs.EffectLaws.{case_of_fits, at_keeps, jump_keeps, jump_if_keeps}
use Rattle.amx_ops.proofs.EffectLaws.{register_cell, floor_keeps, unsigned_keeps, margin_keeps}
use Rattle.amx_ops.proofs.EffectLaws.{stack_by, heap_by, set_keeps, returned_keeps, halted_keeps}
use Rattle.amx_ops.proofs.EffectLaws.{ask_keeps}

is_multiple_by : (b : Bool) (at : ℕ) → unless b (ByteCount at) ≡ None → b ≡ true
is_multiple_by true at e = refl
is_multiple_by false at e = absurd (let none : ⊥ = cc in none)

-- the instruction at the state s, with the address q of the next one
module _ (amx : Amx) (code : All IsCell amx.code) (q : ℕ) (c : q < 2 ^ 32) (s : State)
    (h : IsState amx s) where
  on : (t : State) → IsState amx t → Leaves amx (at_next q t)
  on t g = at_keeps amx q t c g

  pri : (x : ℤ) → IsCell x → Leaves amx (at_next q (record s { pri = x }))
  pri x k = on (record s { pri = x }) (with_pri amx s x k h)

  alt : (x : ℤ) → IsCell x → Leaves amx (at_next q (record s { alt = x }))
  alt x k = on (record s { alt = x }) (with_alt amx s x k h)

  load_pri : (a : ℕ) → Leaves amx (load s a (λ x. at_next q (record s { pri = x })))
  load_pri a = load_keeps amx s a (λ x. at_next q (record s { pri = x })) h pri

  load_alt : (a : ℕ) → Leaves amx (load s a (λ x. at_next q (record s { alt = x })))
  load_alt a = load_keeps amx s a (λ x. at_next q (record s { alt = x })) h alt

  lref_pri : (a : ℕ) → Leaves amx
      (load s a (λ b. load s (bits_of b) (λ x. at_next q (record s { pri = x }))))
  lref_pri a =
      load_keeps amx s a (λ b. load s (bits_of b) (λ x. at_next q (record s { pri = x }))) h
      (λ b k. load_pri (bits_of b))

  lref_alt : (a : ℕ) → Leaves amx
      (load s a (λ b. load s (bits_of b) (λ x. at_next q (record s { alt = x }))))
  lref_alt a =
      load_keeps amx s a (λ b. load s (bits_of b) (λ x. at_next q (record s { alt = x }))) h
      (λ b k. load_alt (bits_of b))

  put : (a : ℕ) (v : ℤ) → IsCell v → Leaves amx (store s a v (at_next q))
  put a v k = store_keeps amx s a v (at_next q) k h on

  sref : (a : ℕ) (v : ℤ) → IsCell v → Leaves amx (load s a (λ b. store s (bits_of b) v (at_next q)))
  sref a v k =
      load_keeps amx s a (λ b. store s (bits_of b) v (at_next q)) h (λ b l. put (bits_of b) v k)

  pushes : (v : ℤ) → IsCell v → Leaves amx (push s v (at_next q))
  pushes v k = push_keeps amx s v (at_next q) k h on

  jumps : (b : Bool) (v : ℤ) → IsCell v → Leaves amx (jump_if b (bits_of v) q s)
  jumps b v k = jump_if_keeps amx b (bits_of v) q s (bits_fit v k) c h

  test : (b : Bool) → Leaves amx (at_next q (record s { pri = truth b }))
  test b = pri (truth b) (truth_cell b)

  swap_by : (x : ℤ) → IsCell x → (go : ℤ → State → State)
      → ((y : ℤ) (t : State) → IsCell y → IsState amx t → IsState amx (go y t))
      → Leaves amx (load s s.stk (λ y. store s s.stk x (λ t. at_next q (go y t))))
  swap_by x k go f =
      load_keeps amx s s.stk (λ y. store s s.stk x (λ t. at_next q (go y t))) h
      (λ y l. store_keeps amx s s.stk x (λ t. at_next q (go y t)) k h
      (λ t g. on (go y t) (f y t l g)))

  proc : Leaves amx (push s (cell_of s.frm)
      (λ t. with_margin t (λ u. at_next q (record u { frm = u.stk }))))
  proc =
      push_keeps amx s (cell_of s.frm)
      (λ t. with_margin t (λ u. at_next q (record u { frm = u.stk }))) (cell_of_cell s.frm) h
      (λ t g. margin_keeps amx t (λ u. at_next q (record u { frm = u.stk }))
      (λ m. let d = g.order.2 in
      let e = g.size in
      on (record t { frm = t.stk }) (with_frm amx t t.stk (omega arith) g)))

  ret : Leaves amx (pop s (λ f t. pop t
      (λ a u. jump amx (bits_of a) (record u { frm = bits_of f }))))
  ret =
      pop_keeps amx s (λ f t. pop t (λ a u. jump amx (bits_of a) (record u { frm = bits_of f }))) h
      (λ f t k g. pop_keeps amx t (λ a u. jump amx (bits_of a) (record u { frm = bits_of f })) g
      (λ a u l i. jump_keeps amx (bits_of a) (record u { frm = bits_of f }) (bits_fit a l)
      (with_frm amx u (bits_of f) (bits_fit f k) i)))

  retn : Leaves amx (pop s (λ f t. pop t
      (λ a u. pop u (λ n w. returned amx (bits_of f) (bits_of a) (bits_of n) w))))
  retn =
      pop_keeps amx s (λ f t. pop t (λ a u. pop u
      (λ n w. returned amx (bits_of f) (bits_of a) (bits_of n) w))) h
      (λ f t k g. pop_keeps amx t (λ a u. pop u
      (λ n w. returned amx (bits_of f) (bits_of a) (bits_of n) w)) g
      (λ a u l i. pop_keeps amx u (λ n w. returned amx (bits_of f) (bits_of a) (bits_of n) w) i
      (λ n w m j. returned_keeps amx (bits_of f) (bits_of a) (bits_of n) w (bits_fit f k)
      (bits_fit a l) j)))

  bounds_by : (b : Bool) → Leaves amx (cond b (Errs (pos 4)) (at_next q s))
  bounds_by true = tt
  bounds_by false = on s h

  keeps : (o : Op) (v : ℤ) → IsCell v → (operand_of o ≡ operand.Multiple → bits_of v % 4 ≡ 0)
      → Leaves amx (act amx o v q s)
  -- loads and stores
  keeps op.LoadPri v k m = load_pri (bits_of v)
  keeps op.LoadAlt v k m = load_alt (bits_of v)
  keeps op.LoadSPri v k m = load_pri (in_frame s v)
  keeps op.LoadSAlt v k m = load_alt (in_frame s v)
  keeps op.LrefPri v k m = lref_pri (bits_of v)
  keeps op.LrefAlt v k m = lref_alt (bits_of v)
  keeps op.LrefSPri v k m = lref_pri (in_frame s v)
  keeps op.LrefSAlt v k m = lref_alt (in_frame s v)
  keeps op.LoadI v k m = load_pri (bits_of s.pri)
  keeps op.LodbI v k m =
      load_part_keeps amx s (bits_of s.pri) (bits_of v)
      (λ x. at_next q (record s { pri = x })) h pri
  keeps op.ConstPri v k m = pri v k
  keeps op.ConstAlt v k m = alt v k
  keeps op.AddrPri v k m = pri (cell_of (in_frame s v)) (cell_of_cell (in_frame s v))
  keeps op.AddrAlt v k m = alt (cell_of (in_frame s v)) (cell_of_cell (in_frame s v))
  keeps op.StorPri v k m = put (bits_of v) s.pri h.pri
  keeps op.StorAlt v k m = put (bits_of v) s.alt h.alt
  keeps op.StorSPri v k m = put (in_frame s v) s.pri h.pri
  keeps op.StorSAlt v k m = put (in_frame s v) s.alt h.alt
  keeps op.SrefPri v k m = sref (bits_of v) s.pri h.pri
  keeps op.SrefAlt v k m = sref (bits_of v) s.alt h.alt
  keeps op.SrefSPri v k m = sref (in_frame s v) s.pri h.pri
  keeps op.SrefSAlt v k m = sref (in_frame s v) s.alt h.alt
  keeps op.StorI v k m = put (bits_of s.alt) s.pri h.pri
  keeps op.StrbI v k m = store_part_keeps amx s (bits_of s.alt) (bits_of v) s.pri (at_next q) h on
  -- addresses and registers
  keeps op.Lidx v k m = load_pri (bits_of (add s.alt (mul (pos 4) s.pri)))
  keeps op.LidxB v k m = load_pri (bits_of (add s.alt (shl s.pri v)))
  keeps op.Idxaddr v k m = pri (add s.alt (mul (pos 4) s.pri)) (wrap_cell _)
  keeps op.IdxaddrB v k m = pri (add s.alt (shl s.pri v)) (wrap_cell _)
  keeps op.AlignPri v k m = pri (xor s.pri (sub (pos 4) v)) (cell_of_cell _)
  keeps op.AlignAlt v k m = alt (xor s.alt (sub (pos 4) v)) (cell_of_cell _)
  keeps op.Lctrl v k m = pri (register amx q (bits_of v) s) (register_cell amx q (bits_of v) s)
  keeps op.Sctrl v k m = set_keeps amx q (bits_of v) s c h
  keeps op.MovePri v k m = pri s.alt h.alt
  keeps op.MoveAlt v k m = alt s.pri h.pri
  keeps op.Xchg v k m =
      on (record s { pri = s.alt; alt = s.pri })
      (with_alt amx (record s { pri = s.alt }) s.pri h.pri (with_pri amx s s.alt h.alt h))
  -- the stack, the heap and frames
  keeps op.PushPri v k m = pushes s.pri h.pri
  keeps op.PushAlt v k m = pushes s.alt h.alt
  keeps op.PushC v k m = pushes v k
  keeps op.Push v k m = load_keeps amx s (bits_of v) (λ x. push s x (at_next q)) h pushes
  keeps op.PushS v k m = load_keeps amx s (in_frame s v) (λ x. push s x (at_next q)) h pushes
  keeps op.PopPri v k m =
      pop_keeps amx s (λ x t. at_next q (record t { pri = x })) h
      (λ x t l g. on (record t { pri = x }) (with_pri amx t x l g))
  keeps op.PopAlt v k m =
      pop_keeps amx s (λ x t. at_next q (record t { alt = x })) h
      (λ x t l g. on (record t { alt = x }) (with_alt amx t x l g))
  keeps op.Stack v k m = stack_by amx v q s k (m refl) c h
  keeps op.Heap v k m = heap_by amx v q s k (m refl) c h
  keeps op.Proc v k m = proc
  keeps op.Ret v k m = ret
  keeps op.Retn v k m = retn
  -- calls and jumps
  keeps op.Call v k m =
      push_keeps amx s (cell_of q) (λ t. at_next (bits_of v) t) (cell_of_cell q) h
      (λ t g. at_keeps amx (bits_of v) t (bits_fit v k) g)
  keeps op.CallPri v k m =
      push_keeps amx s (cell_of q) (λ t. jump amx (bits_of s.pri) t) (cell_of_cell q) h
      (λ t g. jump_keeps amx (bits_of s.pri) t (bits_fit s.pri h.pri) g)
  keeps op.Jump v k m = at_keeps amx (bits_of v) s (bits_fit v k) h
  keeps op.Jrel v k m = at_keeps amx (wrapped_sum q (bits_of v)) s (sum_fits q (bits_of v)) h
  keeps op.Jzer v k m = jumps (is_zero s.pri) v k
  keeps op.Jnz v k m = jumps (no (is_zero s.pri)) v k
  keeps op.Jeq v k m = jumps (equal s.pri s.alt) v k
  keeps op.Jneq v k m = jumps (no (equal s.pri s.alt)) v k
  keeps op.Jless v k m = jumps (unsigned_less s.pri s.alt) v k
  keeps op.Jleq v k m = jumps (unsigned_less_eq s.pri s.alt) v k
  keeps op.Jgrtr v k m = jumps (unsigned_less s.alt s.pri) v k
  keeps op.Jgeq v k m = jumps (unsigned_less_eq s.alt s.pri) v k
  keeps op.Jsless v k m = jumps (less s.pri s.alt) v k
  keeps op.Jsleq v k m = jumps (less_eq s.pri s.alt) v k
  keeps op.Jsgrtr v k m = jumps (less s.alt s.pri) v k
  keeps op.Jsgeq v k m = jumps (less_eq s.alt s.pri) v k
  -- arithmetic
  keeps op.Shl v k m = pri (shl s.pri s.alt) (cell_of_cell _)
  keeps op.Shr v k m = pri (ushr s.pri s.alt) (cell_of_cell _)
  keeps op.Sshr v k m = pri (shr s.pri s.alt) (shr_cell s.pri s.alt h.pri)
  keeps op.ShlCPri v k m = pri (shl s.pri v) (cell_of_cell _)
  keeps op.ShlCAlt v k m = alt (shl s.alt v) (cell_of_cell _)
  keeps op.ShrCPri v k m = pri (ushr s.pri v) (cell_of_cell _)
  keeps op.ShrCAlt v k m = alt (ushr s.alt v) (cell_of_cell _)
  keeps op.Smul v k m = pri (mul s.pri s.alt) (wrap_cell _)
  keeps op.Sdiv v k m = floor_keeps amx s.pri s.alt q s h.pri h.alt c h
  keeps op.SdivAlt v k m = floor_keeps amx s.alt s.pri q s h.alt h.pri c h
  keeps op.Umul v k m = pri (mul s.pri s.alt) (wrap_cell _)
  keeps op.Udiv v k m = unsigned_keeps amx s.pri s.alt q s c h
  keeps op.UdivAlt v k m = unsigned_keeps amx s.alt s.pri q s c h
  keeps op.Add v k m = pri (add s.pri s.alt) (wrap_cell _)
  keeps op.Sub v k m = pri (sub s.pri s.alt) (wrap_cell _)
  keeps op.SubAlt v k m = pri (sub s.alt s.pri) (wrap_cell _)
  keeps op.And v k m = pri (and s.pri s.alt) (cell_of_cell _)
  keeps op.Or v k m = pri (or s.pri s.alt) (cell_of_cell _)
  keeps op.Xor v k m = pri (xor s.pri s.alt) (cell_of_cell _)
  keeps op.Not v k m = test (is_zero s.pri)
  keeps op.Neg v k m = pri (neg s.pri) (wrap_cell _)
  keeps op.Invert v k m = pri (invert s.pri) (cell_of_cell _)
  keeps op.AddC v k m = pri (add s.pri v) (wrap_cell _)
  keeps op.SmulC v k m = pri (mul s.pri v) (wrap_cell _)
  -- cells set, tested and counted
  keeps op.ZeroPri v k m = pri (pos 0) (truth_cell false)
  keeps op.ZeroAlt v k m = alt (pos 0) (truth_cell false)
  keeps op.Zero v k m = put (bits_of v) (pos 0) (truth_cell false)
  keeps op.ZeroS v k m = put (in_frame s v) (pos 0) (truth_cell false)
  keeps op.SignPri v k m =
      pri (shr (shl s.pri (pos 24)) (pos 24))
      (shr_cell (shl s.pri (pos 24)) (pos 24) (cell_of_cell _))
  keeps op.SignAlt v k m =
      alt (shr (shl s.alt (pos 24)) (pos 24))
      (shr_cell (shl s.alt (pos 24)) (pos 24) (cell_of_cell _))
  keeps op.Eq v k m = test (equal s.pri s.alt)
  keeps op.Neq v k m = test (no (equal s.pri s.alt))
  keeps op.Less v k m = test (unsigned_less s.pri s.alt)
  keeps op.Leq v k m = test (unsigned_less_eq s.pri s.alt)
  keeps op.Grtr v k m = test (unsigned_less s.alt s.pri)
  keeps op.Geq v k m = test (unsigned_less_eq s.alt s.pri)
  keeps op.Sless v k m = test (less s.pri s.alt)
  keeps op.Sleq v k m = test (less_eq s.pri s.alt)
  keeps op.Sgrtr v k m = test (less s.alt s.pri)
  keeps op.Sgeq v k m = test (less_eq s.alt s.pri)
  keeps op.EqCPri v k m = test (equal s.pri v)
  keeps op.EqCAlt v k m = test (equal s.alt v)
  keeps op.IncPri v k m = pri (add s.pri (pos 1)) (wrap_cell _)
  keeps op.IncAlt v k m = alt (add s.alt (pos 1)) (wrap_cell _)
  keeps op.Inc v k m = raise_keeps amx s (bits_of v) (pos 1) (at_next q) h on
  keeps op.IncS v k m = raise_keeps amx s (in_frame s v) (pos 1) (at_next q) h on
  keeps op.IncI v k m = raise_keeps amx s (bits_of s.pri) (pos 1) (at_next q) h on
  keeps op.DecPri v k m = pri (sub s.pri (pos 1)) (wrap_cell _)
  keeps op.DecAlt v k m = alt (sub s.alt (pos 1)) (wrap_cell _)
  keeps op.Dec v k m = raise_keeps amx s (bits_of v) (negsuc 0) (at_next q) h on
  keeps op.DecS v k m = raise_keeps amx s (in_frame s v) (negsuc 0) (at_next q) h on
  keeps op.DecI v k m = raise_keeps amx s (bits_of s.pri) (negsuc 0) (at_next q) h on
  -- blocks of bytes
  keeps op.Movs v k m =
      copy_keeps amx s (bits_of s.pri) (bits_of s.alt) (bits_of v) (at_next q) h on
  keeps op.Cmps v k m =
      compare_keeps amx s (bits_of s.alt) (bits_of s.pri) (bits_of v)
      (λ x. at_next q (record s { pri = x })) pri
  keeps op.Fill v k m = fill_keeps amx s (bits_of s.alt) (bits_of v) s.pri (at_next q) h.pri h on
  -- the host, case tables and others
  keeps op.Halt v k m = halted_keeps amx v q s c h
  keeps op.Bounds v k m = bounds_by (nat_lt (bits_of v) (bits_of s.pri))
  keeps op.SysreqPri v k m = ask_keeps amx (bits_of s.pri) (record s { cip = q }) (on s h)
  keeps op.SysreqC v k m = on s h
  keeps op.JumpPri v k m = jump_keeps amx (bits_of s.pri) s (bits_fit s.pri h.pri) h
  keeps op.Switch v k m =
      at_keeps amx (case_of amx (bits_of v) s.pri) s (case_of_fits amx (bits_of v) s.pri code) h
  keeps op.Casetbl v k m = tt
  keeps op.SwapPri v k m =
      swap_by s.pri h.pri (λ y t. record t { pri = y }) (λ y t l g. with_pri amx t y l g)
  keeps op.SwapAlt v k m =
      swap_by s.alt h.alt (λ y t. record t { alt = y }) (λ y t l g. with_alt amx t y l g)
  keeps op.PushAdr v k m = pushes (cell_of (in_frame s v)) (cell_of_cell (in_frame s v))
  keeps op.Nop v k m = on s h
  keeps op.Break v k m = on s h

-- ---- the step

module _ (amx : Amx) (r : IsRunnable amx) (s : State) (h : IsState amx s) where
  multiple_by : (k : Operand) (v : ℤ) (at : ℕ) → k ≡ operand.Multiple
      → operand_fault (length amx.natives) k v at ≡ None → bits_of v % 4 ≡ 0
  multiple_by k v at e f =
      let g = subst (λ x. operand_fault (length amx.natives) x v at ≡ None) e f in
      eqb-true (bits_of v % 4) 0 (is_multiple_by (is_multiple v) at g)

  acts : (i : Instr) (o : Option Op) → op_of i.op ≡ o → fetched amx.code s.cip ≡ Some i
      → Leaves amx (act_by amx o i.operand (s.cip + 4 * i.cells) s)
  acts i None e f = tt
  acts i (Some o) e f =
      let within = fetched_within amx.code s.cip i r.code f in
      let all = all_proper amx.code (length amx.natives) amx.entry _ r.valid in
      let no_fault =
      fetched_is (λ it. proper (length amx.natives) it ≡ None) amx.code s.cip i all f in
      let fits =
      operand_proper (length amx.natives) o (record { at = s.cip; instr = i }) e no_fault in
      let size = r.size in
      keeps amx r.code (s.cip + 4 * i.cells)
      (omega (arith, within.ends)) s h o i.operand within.operand
      (λ k. multiple_by (operand_of o) i.operand s.cip k fits)

  steps_by : (o : Option Instr) → fetched amx.code s.cip ≡ o → Leaves amx (act_on amx o s)
  steps_by None e = tt
  steps_by (Some i) e = acts i (op_of i.op) refl e

  pub steps : Leaves amx (step amx s)
  steps = steps_by (fetched amx.code s.cip) refl

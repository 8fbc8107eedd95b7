-- Steps of two states that differ in dead cells alone, a row each.
use Rattle.std.proofs.Common.{◌≡◌, ◌+◌, ◌-◌, ◌*◌, ◌%◌, ℕ, ℤ, pos, negsuc, ◌+ℤ◌, List, Option, None}
use Rattle.std.proofs.Common.{Some}
use Rattle.std.proofs.Common.{not as no, nat_lt, refl, sym, subst, arith}
use Rattle.pawn_cells.specs.Cells.{bits_of, cell_of, add, mul, shl, less, less_eq, equal, is_zero}
use Rattle.pawn_cells.specs.Cells.{unsigned_less, unsigned_less_eq, floor_div, floor_rem}
use Rattle.pawn_cells.specs.Cells.{unsigned_div, unsigned_rem}
use Rattle.amx_ops.specs.declared.amx.Amx.{Amx}
use Rattle.amx_ops.specs.declared.instr.Instr.{Instr}
use Rattle.amx_ops.specs.declared.op.Op.{Op}
use Rattle.amx_ops.specs.declared.op.Op.TheVariants as op
use Rattle.amx_ops.specs.Table.{op_of}
use Rattle.amx_ops.specs.Instructions.{fetched}
use Rattle.amx_ops.specs.State.{State, push, pop, with_margin}
use Rattle.amx_ops.specs.Access.{load, store, in_frame}
use Rattle.amx_ops.specs.Effects.{at_next, jump, returned}
use Rattle.amx_ops.specs.Step.{act, act_by, act_on, step}
use Rattle.amx_step.specs.Hosting.{AreInOrder}
use Rattle.amx_machine.specs.Unseen.{DifferDead, EndAlike, DeadIsUnseen}
use Rattle.amx_machine.proofs.UnseenParts.{Alike, Pair, base, goes, still, asks, errs, load_alike}
use Rattle.amx_machine.proofs.UnseenParts.{part_alike, store_alike, raise_alike, store_part_alike}
use Rattle.amx_machine.proofs.UnseenParts.{push_alike}
use Rattle.amx_machine.proofs.UnseenParts.{pop_alike}
use Rattle.amx_machine.proofs.UnseenEffects.{either, jump_alike, jumps, returned_alike}
use Rattle.amx_machine.proofs.UnseenEffects.{register_alike}
use Rattle.amx_machine.proofs.UnseenEffects.{divide_alike, margin_alike, stack_alike, heap_alike}
use Rattle.amx_machine.proofs.UnseenEffects.{set_alike}
use Rattle.amx_machine.proofs.UnseenEffects.{ask_alike}
use Rattle.amx_machine.proofs.UnseenBlocks.{copy_alike, compare_alike, fill_alike, halt_alike}

module _ {amx : Amx} {s : State} {d : List ℤ} (p : Pair amx s d) where
  abbrev t : State
  t = record s { cells = d }

  multiple : (n : ℕ) → n % 4 ≡ 0 → (n + 4) % 4 ≡ 0
  multiple n e = omega (arith, e)

  ret_alike : (v : ℤ) (q : ℕ) → Alike s d (act amx op.Ret v q s) (act amx op.Ret v q t)
  ret_alike v q =
      let whole = p.o.whole.1 in
      pop_alike p s.stk (omega arith) whole
      (λ f t. pop t (λ a u. jump amx (bits_of a) (record u { frm = bits_of f })))
      (λ f. pop_alike p (s.stk + 4) (omega arith) (multiple s.stk whole)
      (λ a u. jump amx (bits_of a) (record u { frm = bits_of f }))
      (λ a. jump_alike p (bits_of a) (record s { stk = s.stk + 4 + 4; frm = bits_of f }) d (base p)
      (λ k x y. refl)))

  retn_alike : (v : ℤ) (q : ℕ) → Alike s d (act amx op.Retn v q s) (act amx op.Retn v q t)
  retn_alike v q =
      let whole = p.o.whole.1 in
      let next = multiple s.stk whole in
      pop_alike p s.stk (omega arith) whole
      (λ f t. pop t (λ a u. pop u (λ n w. returned amx (bits_of f) (bits_of a) (bits_of n) w)))
      (λ f. pop_alike p (s.stk + 4) (omega arith) next
      (λ a u. pop u (λ n w. returned amx (bits_of f) (bits_of a) (bits_of n) w))
      (λ a. pop_alike p (s.stk + 4 + 4) (omega arith) (multiple (s.stk + 4) next)
      (λ n w. returned amx (bits_of f) (bits_of a) (bits_of n) w)
      (λ n. returned_alike p (bits_of f) (bits_of a) (bits_of n) (s.stk + 4 + 4 + 4))))

  -- a row each
  alike : (o : Op) (v : ℤ) (q : ℕ) → Alike s d (act amx o v q s) (act amx o v q t)
  alike op.LoadPri v q = load_alike p (bits_of v) (λ s x. at_next q (record s { pri = x })) (λ x. still p refl refl)
  alike op.LoadAlt v q = load_alike p (bits_of v) (λ s x. at_next q (record s { alt = x })) (λ x. still p refl refl)
  alike op.LoadSPri v q = load_alike p (in_frame s v) (λ s x. at_next q (record s { pri = x })) (λ x. still p refl refl)
  alike op.LoadSAlt v q = load_alike p (in_frame s v) (λ s x. at_next q (record s { alt = x })) (λ x. still p refl refl)
  alike op.LrefPri v q = load_alike p (bits_of v) (λ s a. load s (bits_of a) (λ x. at_next q (record s { pri = x }))) (λ a. load_alike p (bits_of a) (λ s x. at_next q (record s { pri = x })) (λ x. still p refl refl))
  alike op.LrefAlt v q = load_alike p (bits_of v) (λ s a. load s (bits_of a) (λ x. at_next q (record s { alt = x }))) (λ a. load_alike p (bits_of a) (λ s x. at_next q (record s { alt = x })) (λ x. still p refl refl))
  alike op.LrefSPri v q = load_alike p (in_frame s v) (λ s a. load s (bits_of a) (λ x. at_next q (record s { pri = x }))) (λ a. load_alike p (bits_of a) (λ s x. at_next q (record s { pri = x })) (λ x. still p refl refl))
  alike op.LrefSAlt v q = load_alike p (in_frame s v) (λ s a. load s (bits_of a) (λ x. at_next q (record s { alt = x }))) (λ a. load_alike p (bits_of a) (λ s x. at_next q (record s { alt = x })) (λ x. still p refl refl))
  alike op.LoadI v q = load_alike p (bits_of s.pri) (λ s x. at_next q (record s { pri = x })) (λ x. still p refl refl)
  alike op.LodbI v q = part_alike p (bits_of s.pri) (bits_of v) (λ s x. at_next q (record s { pri = x })) (λ x. still p refl refl)
  alike op.ConstPri v q = still p refl refl
  alike op.ConstAlt v q = still p refl refl
  alike op.AddrPri v q = still p refl refl
  alike op.AddrAlt v q = still p refl refl
  alike op.StorPri v q = store_alike p (bits_of v) s.pri (at_next q) (λ x y r k. goes p r k)
  alike op.StorAlt v q = store_alike p (bits_of v) s.alt (at_next q) (λ x y r k. goes p r k)
  alike op.StorSPri v q = store_alike p (in_frame s v) s.pri (at_next q) (λ x y r k. goes p r k)
  alike op.StorSAlt v q = store_alike p (in_frame s v) s.alt (at_next q) (λ x y r k. goes p r k)
  alike op.SrefPri v q = load_alike p (bits_of v) (λ s a. store s (bits_of a) s.pri (at_next q)) (λ a. store_alike p (bits_of a) s.pri (at_next q) (λ x y r k. goes p r k))
  alike op.SrefAlt v q = load_alike p (bits_of v) (λ s a. store s (bits_of a) s.alt (at_next q)) (λ a. store_alike p (bits_of a) s.alt (at_next q) (λ x y r k. goes p r k))
  alike op.SrefSPri v q = load_alike p (in_frame s v) (λ s a. store s (bits_of a) s.pri (at_next q)) (λ a. store_alike p (bits_of a) s.pri (at_next q) (λ x y r k. goes p r k))
  alike op.SrefSAlt v q = load_alike p (in_frame s v) (λ s a. store s (bits_of a) s.alt (at_next q)) (λ a. store_alike p (bits_of a) s.alt (at_next q) (λ x y r k. goes p r k))
  alike op.StorI v q = store_alike p (bits_of s.alt) s.pri (at_next q) (λ x y r k. goes p r k)
  alike op.StrbI v q = store_part_alike p (bits_of s.alt) (bits_of v) s.pri (at_next q) (λ x y r k. goes p r k)
  alike op.Lidx v q = load_alike p (bits_of (add s.alt (mul (pos 4) s.pri))) (λ s x. at_next q (record s { pri = x })) (λ x. still p refl refl)
  alike op.LidxB v q = load_alike p (bits_of (add s.alt (shl s.pri v))) (λ s x. at_next q (record s { pri = x })) (λ x. still p refl refl)
  alike op.Idxaddr v q = still p refl refl
  alike op.IdxaddrB v q = still p refl refl
  alike op.AlignPri v q = still p refl refl
  alike op.AlignAlt v q = still p refl refl
  alike op.Lctrl v q = register_alike p q (bits_of v)
  alike op.Sctrl v q = set_alike p q (bits_of v)
  alike op.MovePri v q = still p refl refl
  alike op.MoveAlt v q = still p refl refl
  alike op.Xchg v q = still p refl refl
  alike op.PushPri v q = push_alike p s.pri (at_next q) (λ x y r k. goes p r k)
  alike op.PushAlt v q = push_alike p s.alt (at_next q) (λ x y r k. goes p r k)
  alike op.PushC v q = push_alike p v (at_next q) (λ x y r k. goes p r k)
  alike op.Push v q = load_alike p (bits_of v) (λ s x. push s x (at_next q)) (λ x. push_alike p x (at_next q) (λ x y r k. goes p r k))
  alike op.PushS v q = load_alike p (in_frame s v) (λ s x. push s x (at_next q)) (λ x. push_alike p x (at_next q) (λ x y r k. goes p r k))
  alike op.PopPri v q = pop_alike p s.stk (omega arith) p.o.whole.1 (λ x t. at_next q (record t { pri = x })) (λ x. still p refl refl)
  alike op.PopAlt v q = pop_alike p s.stk (omega arith) p.o.whole.1 (λ x t. at_next q (record t { alt = x })) (λ x. still p refl refl)
  alike op.Stack v q = stack_alike p (pos s.stk +ℤ v) q (cell_of s.stk)
  alike op.Heap v q = heap_alike p (pos s.hea +ℤ v) q (cell_of s.hea)
  alike op.Proc v q = push_alike p (cell_of s.frm) (λ t. with_margin t (λ u. at_next q (record u { frm = u.stk }))) (λ x y r k. margin_alike p (record s { stk = s.stk - 4; cells = x }) y (λ u. at_next q (record u { frm = u.stk })) (goes p r k))
  alike op.Ret v q = ret_alike v q
  alike op.Retn v q = retn_alike v q
  alike op.Call v q = push_alike p (cell_of q) (at_next (bits_of v)) (λ x y r k. goes p r k)
  alike op.CallPri v q = push_alike p (cell_of q) (jump amx (bits_of s.pri)) (λ x y r k. jump_alike p (bits_of s.pri) (record s { stk = s.stk - 4; cells = x }) y r k)
  alike op.Jump v q = still p refl refl
  alike op.Jrel v q = still p refl refl
  alike op.Jzer v q = jumps p (is_zero s.pri) (bits_of v) q
  alike op.Jnz v q = jumps p (no (is_zero s.pri)) (bits_of v) q
  alike op.Jeq v q = jumps p (equal s.pri s.alt) (bits_of v) q
  alike op.Jneq v q = jumps p (no (equal s.pri s.alt)) (bits_of v) q
  alike op.Jless v q = jumps p (unsigned_less s.pri s.alt) (bits_of v) q
  alike op.Jleq v q = jumps p (unsigned_less_eq s.pri s.alt) (bits_of v) q
  alike op.Jgrtr v q = jumps p (unsigned_less s.alt s.pri) (bits_of v) q
  alike op.Jgeq v q = jumps p (unsigned_less_eq s.alt s.pri) (bits_of v) q
  alike op.Jsless v q = jumps p (less s.pri s.alt) (bits_of v) q
  alike op.Jsleq v q = jumps p (less_eq s.pri s.alt) (bits_of v) q
  alike op.Jsgrtr v q = jumps p (less s.alt s.pri) (bits_of v) q
  alike op.Jsgeq v q = jumps p (less_eq s.alt s.pri) (bits_of v) q
  alike op.Shl v q = still p refl refl
  alike op.Shr v q = still p refl refl
  alike op.Sshr v q = still p refl refl
  alike op.ShlCPri v q = still p refl refl
  alike op.ShlCAlt v q = still p refl refl
  alike op.ShrCPri v q = still p refl refl
  alike op.ShrCAlt v q = still p refl refl
  alike op.Smul v q = still p refl refl
  alike op.Sdiv v q = divide_alike p floor_div floor_rem s.pri s.alt q
  alike op.SdivAlt v q = divide_alike p floor_div floor_rem s.alt s.pri q
  alike op.Umul v q = still p refl refl
  alike op.Udiv v q = divide_alike p unsigned_div unsigned_rem s.pri s.alt q
  alike op.UdivAlt v q = divide_alike p unsigned_div unsigned_rem s.alt s.pri q
  alike op.Add v q = still p refl refl
  alike op.Sub v q = still p refl refl
  alike op.SubAlt v q = still p refl refl
  alike op.And v q = still p refl refl
  alike op.Or v q = still p refl refl
  alike op.Xor v q = still p refl refl
  alike op.Not v q = still p refl refl
  alike op.Neg v q = still p refl refl
  alike op.Invert v q = still p refl refl
  alike op.AddC v q = still p refl refl
  alike op.SmulC v q = still p refl refl
  alike op.ZeroPri v q = still p refl refl
  alike op.ZeroAlt v q = still p refl refl
  alike op.Zero v q = store_alike p (bits_of v) (pos 0) (at_next q) (λ x y r k. goes p r k)
  alike op.ZeroS v q = store_alike p (in_frame s v) (pos 0) (at_next q) (λ x y r k. goes p r k)
  alike op.SignPri v q = still p refl refl
  alike op.SignAlt v q = still p refl refl
  alike op.Eq v q = still p refl refl
  alike op.Neq v q = still p refl refl
  alike op.Less v q = still p refl refl
  alike op.Leq v q = still p refl refl
  alike op.Grtr v q = still p refl refl
  alike op.Geq v q = still p refl refl
  alike op.Sless v q = still p refl refl
  alike op.Sleq v q = still p refl refl
  alike op.Sgrtr v q = still p refl refl
  alike op.Sgeq v q = still p refl refl
  alike op.EqCPri v q = still p refl refl
  alike op.EqCAlt v q = still p refl refl
  alike op.IncPri v q = still p refl refl
  alike op.IncAlt v q = still p refl refl
  alike op.Inc v q = raise_alike p (bits_of v) (pos 1) (at_next q) (λ x y r k. goes p r k)
  alike op.IncS v q = raise_alike p (in_frame s v) (pos 1) (at_next q) (λ x y r k. goes p r k)
  alike op.IncI v q = raise_alike p (bits_of s.pri) (pos 1) (at_next q) (λ x y r k. goes p r k)
  alike op.DecPri v q = still p refl refl
  alike op.DecAlt v q = still p refl refl
  alike op.Dec v q = raise_alike p (bits_of v) (negsuc 0) (at_next q) (λ x y r k. goes p r k)
  alike op.DecS v q = raise_alike p (in_frame s v) (negsuc 0) (at_next q) (λ x y r k. goes p r k)
  alike op.DecI v q = raise_alike p (bits_of s.pri) (negsuc 0) (at_next q) (λ x y r k. goes p r k)
  alike op.Movs v q = copy_alike p (bits_of s.pri) (bits_of s.alt) (bits_of v) q
  alike op.Cmps v q = compare_alike p (bits_of s.alt) (bits_of s.pri) (bits_of v) (λ s x. at_next q (record s { pri = x })) (λ x. still p refl refl)
  alike op.Fill v q = fill_alike p (bits_of s.alt) (bits_of v) s.pri q
  alike op.Halt v q = halt_alike p v q
  alike op.Bounds v q = either p (nat_lt (bits_of v) (bits_of s.pri)) _ _ _ _ (errs p) (still p refl refl)
  alike op.SysreqPri v q = ask_alike p (bits_of s.pri) q
  alike op.SysreqC v q = asks p (base p) (λ k x y. refl)
  alike op.JumpPri v q = jump_alike p (bits_of s.pri) s d (base p) (λ k x y. refl)
  alike op.Switch v q = still p refl refl
  alike op.Casetbl v q = errs p
  alike op.SwapPri v q = load_alike p s.stk (λ s x. store s s.stk s.pri (λ t. at_next q (record t { pri = x }))) (λ x. store_alike p s.stk s.pri (λ t. at_next q (record t { pri = x })) (λ x y r k. goes p r k))
  alike op.SwapAlt v q = load_alike p s.stk (λ s x. store s s.stk s.alt (λ t. at_next q (record t { alt = x }))) (λ x. store_alike p s.stk s.alt (λ t. at_next q (record t { alt = x })) (λ x y r k. goes p r k))
  alike op.PushAdr v q = push_alike p (cell_of (in_frame s v)) (at_next q) (λ x y r k. goes p r k)
  alike op.Nop v q = still p refl refl
  alike op.Break v q = still p refl refl

  by_operation : (o : Option Op) (v : ℤ) (q : ℕ) → Alike s d (act_by amx o v q s) (act_by amx o v q t)
  by_operation None v q = errs p
  by_operation (Some o) v q = alike o v q

  by_instruction : (i : Option Instr) → Alike s d (act_on amx i s) (act_on amx i t)
  by_instruction None = errs p
  by_instruction (Some i) = by_operation (op_of i.op) i.operand (s.cip + 4 * i.cells)

  steps_alike : Alike s d (step amx s) (step amx t)
  steps_alike = by_instruction (fetched amx.code s.cip)

pair_of : (amx : Amx) (s t : State) → AreInOrder amx s → DifferDead s t → Pair amx s t.cells
pair_of amx s t o h = record { o = o; size = h.have.size; live = h.live }

alone : (amx : Amx) (s : State) → AreInOrder amx s → Pair amx s s.cells
alone amx s o = record { o = o; size = refl; live = λ k e. refl }

pub dead_unseen : DeadIsUnseen
dead_unseen = record {
  reads =
      λ amx s t o h. subst (λ u. EndAlike s u (step amx s) (step amx u)) (sym h.have.registers)
      (steps_alike (pair_of amx s t o h)).by;
  writes =
      λ amx s o. (steps_alike (alone amx s o)).spares;
}

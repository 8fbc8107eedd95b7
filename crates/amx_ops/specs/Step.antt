-- One step: what each instruction does, a clause each, in the order of the table (Implementer's
-- Guide, "Instruction reference"). Tests stand in the order of the effect, and an error changes
-- nothing.
use Rattle.std.specs.Prelude.{◌+◌, ◌*◌, ℕ, ℤ, pos, negsuc, ◌+ℤ◌, not as no, Option, None, Some}
use Rattle.std.specs.Prelude.{nat_lt, if◌then◌else◌}
use Rattle.pawn_cells.specs.Cells.{bits_of, cell_of, wrapped_sum, add, sub, mul, neg, floor_div}
use Rattle.pawn_cells.specs.Cells.{floor_rem, unsigned_div, unsigned_rem, and, or, xor, invert, shl}
use Rattle.pawn_cells.specs.Cells.{shr, ushr, less, less_eq, equal, unsigned_less, unsigned_less_eq}
use Rattle.pawn_cells.specs.Cells.{is_zero, truth, not}
use Rattle.amx_ops.specs.declared.amx.Amx.{Amx}
use Rattle.amx_ops.specs.declared.instr.Instr.{Instr}
use Rattle.amx_ops.specs.declared.op.Op.{Op}
use Rattle.amx_ops.specs.declared.op.Op.TheVariants as op
use Rattle.amx_ops.specs.Table.{is_number, op_of}
use Rattle.amx_ops.specs.Instructions.{fetched}
use Rattle.amx_ops.specs.State.{State, Turned, Errs, Halts, Asks, push, pop, with_margin}
use Rattle.amx_ops.specs.Access.{load, store, raise, in_frame, load_part, store_part, copy, compare}
use Rattle.amx_ops.specs.Access.{fill}
use Rattle.amx_ops.specs.Effects.{at_next, jump, jump_if, case_of, register, divide, stack_to}
use Rattle.amx_ops.specs.Effects.{heap_to, set_register, returned, swept_if, ask}

-- an operation of a file with its operand v, and the address q of the next instruction
abbrev pub act : Amx → Op → ℤ → ℕ → State → Turned
-- ---- loads and stores
act amx op.LoadPri v q s = load s (bits_of v) (λ x. at_next q (record s { pri = x }))
act amx op.LoadAlt v q s = load s (bits_of v) (λ x. at_next q (record s { alt = x }))
act amx op.LoadSPri v q s = load s (in_frame s v) (λ x. at_next q (record s { pri = x }))
act amx op.LoadSAlt v q s = load s (in_frame s v) (λ x. at_next q (record s { alt = x }))
act amx op.LrefPri v q s =
    load s (bits_of v) (λ a. load s (bits_of a) (λ x. at_next q (record s { pri = x })))
act amx op.LrefAlt v q s =
    load s (bits_of v) (λ a. load s (bits_of a) (λ x. at_next q (record s { alt = x })))
act amx op.LrefSPri v q s =
    load s (in_frame s v) (λ a. load s (bits_of a) (λ x. at_next q (record s { pri = x })))
act amx op.LrefSAlt v q s =
    load s (in_frame s v) (λ a. load s (bits_of a) (λ x. at_next q (record s { alt = x })))
act amx op.LoadI v q s = load s (bits_of s.pri) (λ x. at_next q (record s { pri = x }))
act amx op.LodbI v q s =
    load_part s (bits_of s.pri) (bits_of v) (λ x. at_next q (record s { pri = x }))
act amx op.ConstPri v q s = at_next q (record s { pri = v })
act amx op.ConstAlt v q s = at_next q (record s { alt = v })
act amx op.AddrPri v q s = at_next q (record s { pri = cell_of (in_frame s v) })
act amx op.AddrAlt v q s = at_next q (record s { alt = cell_of (in_frame s v) })
act amx op.StorPri v q s = store s (bits_of v) s.pri (at_next q)
act amx op.StorAlt v q s = store s (bits_of v) s.alt (at_next q)
act amx op.StorSPri v q s = store s (in_frame s v) s.pri (at_next q)
act amx op.StorSAlt v q s = store s (in_frame s v) s.alt (at_next q)
act amx op.SrefPri v q s = load s (bits_of v) (λ a. store s (bits_of a) s.pri (at_next q))
act amx op.SrefAlt v q s = load s (bits_of v) (λ a. store s (bits_of a) s.alt (at_next q))
act amx op.SrefSPri v q s = load s (in_frame s v) (λ a. store s (bits_of a) s.pri (at_next q))
act amx op.SrefSAlt v q s = load s (in_frame s v) (λ a. store s (bits_of a) s.alt (at_next q))
act amx op.StorI v q s = store s (bits_of s.alt) s.pri (at_next q)
act amx op.StrbI v q s = store_part s (bits_of s.alt) (bits_of v) s.pri (at_next q)
-- ---- addresses and registers
act amx op.Lidx v q s =
    load s (bits_of (add s.alt (mul (pos 4) s.pri))) (λ x. at_next q (record s { pri = x }))
act amx op.LidxB v q s =
    load s (bits_of (add s.alt (shl s.pri v))) (λ x. at_next q (record s { pri = x }))
act amx op.Idxaddr v q s = at_next q (record s { pri = add s.alt (mul (pos 4) s.pri) })
act amx op.IdxaddrB v q s = at_next q (record s { pri = add s.alt (shl s.pri v) })
act amx op.AlignPri v q s = at_next q (record s { pri = xor s.pri (sub (pos 4) v) })
act amx op.AlignAlt v q s = at_next q (record s { alt = xor s.alt (sub (pos 4) v) })
act amx op.Lctrl v q s = at_next q (record s { pri = register amx q (bits_of v) s })
act amx op.Sctrl v q s = set_register amx q (bits_of v) s
act amx op.MovePri v q s = at_next q (record s { pri = s.alt })
act amx op.MoveAlt v q s = at_next q (record s { alt = s.pri })
act amx op.Xchg v q s = at_next q (record s { pri = s.alt; alt = s.pri })
-- ---- the stack, the heap and frames
act amx op.PushPri v q s = push s s.pri (at_next q)
act amx op.PushAlt v q s = push s s.alt (at_next q)
act amx op.PushC v q s = push s v (at_next q)
act amx op.Push v q s = load s (bits_of v) (λ x. push s x (at_next q))
act amx op.PushS v q s = load s (in_frame s v) (λ x. push s x (at_next q))
act amx op.PopPri v q s = pop s (λ x t. at_next q (record t { pri = x }))
act amx op.PopAlt v q s = pop s (λ x t. at_next q (record t { alt = x }))
act amx op.Stack v q s = stack_to (pos s.stk +ℤ v) q (record s { alt = cell_of s.stk })
act amx op.Heap v q s = heap_to amx (pos s.hea +ℤ v) q (record s { alt = cell_of s.hea })
act amx op.Proc v q s =
    push s (cell_of s.frm) (λ t. with_margin t (λ u. at_next q (record u { frm = u.stk })))
act amx op.Ret v q s =
    pop s (λ f t. pop t (λ a u. jump amx (bits_of a) (record u { frm = bits_of f })))
act amx op.Retn v q s =
    pop s (λ f t. pop t (λ a u. pop u (λ n w. returned amx (bits_of f) (bits_of a) (bits_of n) w)))
-- ---- calls and jumps
act amx op.Call v q s = push s (cell_of q) (λ t. at_next (bits_of v) t)
act amx op.CallPri v q s = push s (cell_of q) (λ t. jump amx (bits_of s.pri) t)
act amx op.Jump v q s = at_next (bits_of v) s
act amx op.Jrel v q s = at_next (wrapped_sum q (bits_of v)) s
act amx op.Jzer v q s = jump_if (is_zero s.pri) (bits_of v) q s
act amx op.Jnz v q s = jump_if (no (is_zero s.pri)) (bits_of v) q s
act amx op.Jeq v q s = jump_if (equal s.pri s.alt) (bits_of v) q s
act amx op.Jneq v q s = jump_if (no (equal s.pri s.alt)) (bits_of v) q s
act amx op.Jless v q s = jump_if (unsigned_less s.pri s.alt) (bits_of v) q s
act amx op.Jleq v q s = jump_if (unsigned_less_eq s.pri s.alt) (bits_of v) q s
act amx op.Jgrtr v q s = jump_if (unsigned_less s.alt s.pri) (bits_of v) q s
act amx op.Jgeq v q s = jump_if (unsigned_less_eq s.alt s.pri) (bits_of v) q s
act amx op.Jsless v q s = jump_if (less s.pri s.alt) (bits_of v) q s
act amx op.Jsleq v q s = jump_if (less_eq s.pri s.alt) (bits_of v) q s
act amx op.Jsgrtr v q s = jump_if (less s.alt s.pri) (bits_of v) q s
act amx op.Jsgeq v q s = jump_if (less_eq s.alt s.pri) (bits_of v) q s
-- ---- arithmetic
act amx op.Shl v q s = at_next q (record s { pri = shl s.pri s.alt })
act amx op.Shr v q s = at_next q (record s { pri = ushr s.pri s.alt })
act amx op.Sshr v q s = at_next q (record s { pri = shr s.pri s.alt })
act amx op.ShlCPri v q s = at_next q (record s { pri = shl s.pri v })
act amx op.ShlCAlt v q s = at_next q (record s { alt = shl s.alt v })
act amx op.ShrCPri v q s = at_next q (record s { pri = ushr s.pri v })
act amx op.ShrCAlt v q s = at_next q (record s { alt = ushr s.alt v })
act amx op.Smul v q s = at_next q (record s { pri = mul s.pri s.alt })
act amx op.Sdiv v q s = divide floor_div floor_rem s.pri s.alt q s
act amx op.SdivAlt v q s = divide floor_div floor_rem s.alt s.pri q s
act amx op.Umul v q s = at_next q (record s { pri = mul s.pri s.alt })
act amx op.Udiv v q s = divide unsigned_div unsigned_rem s.pri s.alt q s
act amx op.UdivAlt v q s = divide unsigned_div unsigned_rem s.alt s.pri q s
act amx op.Add v q s = at_next q (record s { pri = add s.pri s.alt })
act amx op.Sub v q s = at_next q (record s { pri = sub s.pri s.alt })
act amx op.SubAlt v q s = at_next q (record s { pri = sub s.alt s.pri })
act amx op.And v q s = at_next q (record s { pri = and s.pri s.alt })
act amx op.Or v q s = at_next q (record s { pri = or s.pri s.alt })
act amx op.Xor v q s = at_next q (record s { pri = xor s.pri s.alt })
act amx op.Not v q s = at_next q (record s { pri = not s.pri })
act amx op.Neg v q s = at_next q (record s { pri = neg s.pri })
act amx op.Invert v q s = at_next q (record s { pri = invert s.pri })
act amx op.AddC v q s = at_next q (record s { pri = add s.pri v })
act amx op.SmulC v q s = at_next q (record s { pri = mul s.pri v })
-- ---- cells set, tested and counted
act amx op.ZeroPri v q s = at_next q (record s { pri = pos 0 })
act amx op.ZeroAlt v q s = at_next q (record s { alt = pos 0 })
act amx op.Zero v q s = store s (bits_of v) (pos 0) (at_next q)
act amx op.ZeroS v q s = store s (in_frame s v) (pos 0) (at_next q)
act amx op.SignPri v q s = at_next q (record s { pri = shr (shl s.pri (pos 24)) (pos 24) })
act amx op.SignAlt v q s = at_next q (record s { alt = shr (shl s.alt (pos 24)) (pos 24) })
act amx op.Eq v q s = at_next q (record s { pri = truth (equal s.pri s.alt) })
act amx op.Neq v q s = at_next q (record s { pri = truth (no (equal s.pri s.alt)) })
act amx op.Less v q s = at_next q (record s { pri = truth (unsigned_less s.pri s.alt) })
act amx op.Leq v q s = at_next q (record s { pri = truth (unsigned_less_eq s.pri s.alt) })
act amx op.Grtr v q s = at_next q (record s { pri = truth (unsigned_less s.alt s.pri) })
act amx op.Geq v q s = at_next q (record s { pri = truth (unsigned_less_eq s.alt s.pri) })
act amx op.Sless v q s = at_next q (record s { pri = truth (less s.pri s.alt) })
act amx op.Sleq v q s = at_next q (record s { pri = truth (less_eq s.pri s.alt) })
act amx op.Sgrtr v q s = at_next q (record s { pri = truth (less s.alt s.pri) })
act amx op.Sgeq v q s = at_next q (record s { pri = truth (less_eq s.alt s.pri) })
act amx op.EqCPri v q s = at_next q (record s { pri = truth (equal s.pri v) })
act amx op.EqCAlt v q s = at_next q (record s { pri = truth (equal s.alt v) })
act amx op.IncPri v q s = at_next q (record s { pri = add s.pri (pos 1) })
act amx op.IncAlt v q s = at_next q (record s { alt = add s.alt (pos 1) })
act amx op.Inc v q s = raise s (bits_of v) (pos 1) (at_next q)
act amx op.IncS v q s = raise s (in_frame s v) (pos 1) (at_next q)
act amx op.IncI v q s = raise s (bits_of s.pri) (pos 1) (at_next q)
act amx op.DecPri v q s = at_next q (record s { pri = sub s.pri (pos 1) })
act amx op.DecAlt v q s = at_next q (record s { alt = sub s.alt (pos 1) })
act amx op.Dec v q s = raise s (bits_of v) (negsuc 0) (at_next q)
act amx op.DecS v q s = raise s (in_frame s v) (negsuc 0) (at_next q)
act amx op.DecI v q s = raise s (bits_of s.pri) (negsuc 0) (at_next q)
-- ---- blocks of bytes
act amx op.Movs v q s = copy s (bits_of s.pri) (bits_of s.alt) (bits_of v) (at_next q)
act amx op.Cmps v q s =
    compare s (bits_of s.alt) (bits_of s.pri) (bits_of v) (λ x. at_next q (record s { pri = x }))
act amx op.Fill v q s = fill s (bits_of s.alt) (bits_of v) s.pri (at_next q)
-- ---- the host, case tables and others
act amx op.Halt v q s = Halts v (record (swept_if (is_number 12 v) s) { cip = q })
act amx op.Bounds v q s = if nat_lt (bits_of v) (bits_of s.pri) then Errs (pos 4) else at_next q s
act amx op.SysreqPri v q s = ask amx (bits_of s.pri) (record s { cip = q })
act amx op.SysreqC v q s = Asks (bits_of v) (record s { cip = q })
act amx op.JumpPri v q s = jump amx (bits_of s.pri) s
act amx op.Switch v q s = at_next (case_of amx (bits_of v) s.pri) s
act amx op.Casetbl v q s = Errs (pos 6)
act amx op.SwapPri v q s =
    load s s.stk (λ x. store s s.stk s.pri (λ t. at_next q (record t { pri = x })))
act amx op.SwapAlt v q s =
    load s s.stk (λ x. store s s.stk s.alt (λ t. at_next q (record t { alt = x })))
act amx op.PushAdr v q s = push s (cell_of (in_frame s v)) (at_next q)
act amx op.Nop v q s = at_next q s
act amx op.Break v q s = at_next q s

-- an operation, or error 6 for a number that has none
abbrev pub act_by : Amx → Option Op → ℤ → ℕ → State → Turned
act_by amx None v next s = Errs (pos 6)
act_by amx (Some operation) v next s = act amx operation v next s

-- error 6: no instruction starts here
abbrev pub act_on : Amx → Option Instr → State → Turned
act_on amx None s = Errs (pos 6)
act_on amx (Some i) s = act_by amx (op_of i.op) i.operand (s.cip + 4 * i.cells) s

-- the instruction at CIP
abbrev pub step : Amx → State → Turned
step amx s = act_on amx (fetched amx.code s.cip) s

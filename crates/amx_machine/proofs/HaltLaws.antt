-- Only HALT halts, and at 12 it sweeps what lies between heap and stack.
use Rattle.std.proofs.Common.{◌≡◌, ◌+◌, ◌*◌, ℕ, ℤ, pos, negsuc, Bool, true, false, cond, Option}
use Rattle.std.proofs.Common.{None, Some, refl}
use Rattle.amx_ops.specs.declared.amx.Amx.{Amx}
use Rattle.amx_ops.specs.declared.instr.Instr.{Instr}
use Rattle.amx_ops.specs.declared.op.Op.{Op}
use Rattle.amx_ops.specs.declared.op.Op.TheVariants as op
use Rattle.amx_ops.specs.Table.{op_of, is_number}
use Rattle.amx_ops.specs.Instructions.{fetched}
use Rattle.amx_ops.specs.State.{State, Turned, Goes, Errs, Halts, Asks}
use Rattle.amx_ops.specs.Effects.{jump_if, stack_to, heap_to, swept_if}
use Rattle.amx_ops.specs.Step.{act, act_by, act_on, step}

-- a state that a halt left
abbrev pub IsHalted : ℤ → State → Type 0
IsHalted code s = (u : State) × (s ≡ record (swept_if (is_number 12 code) u) { cip = s.cip })

abbrev pub SweptBy : Turned → Type 0
SweptBy (Goes s) = Unit {0}
SweptBy (Errs code) = Unit {0}
SweptBy (Halts code s) = IsHalted code s
SweptBy (Asks n s) = Unit {0}

pub record Sweeps (t : Turned) : Type 0 where
  pub by : SweptBy t

goes : {s : State} → Sweeps (Goes s)
goes = record { by = tt }

errs : {code : ℤ} → Sweeps (Errs code)
errs = record { by = tt }

asks : {n : ℕ} {s : State} → Sweeps (Asks n s)
asks = record { by = tt }

either : (b : Bool) (t u : Turned) → Sweeps t → Sweeps u → Sweeps (cond b t u)
either true t u h k = h
either false t u h k = k

ruleset plain = (goes, errs, asks, either)

jumps : (b : Bool) (at q : ℕ) (s : State) → Sweeps (jump_if b at q s)
jumps true at q s = goes
jumps false at q s = goes

stacks : (z : ℤ) (q : ℕ) (s : State) → Sweeps (stack_to z q s)
stacks (pos stk) q s = search plain
stacks (negsuc n) q s = errs

heaps : (amx : Amx) (z : ℤ) (q : ℕ) (s : State) → Sweeps (heap_to amx z q s)
heaps amx (pos hea) q s = search plain
heaps amx (negsuc n) q s = errs

ruleset rows = (goes, errs, asks, either, jumps, stacks, heaps)

-- a row each
sweeps : (amx : Amx) (o : Op) (v : ℤ) (q : ℕ) (s : State) → Sweeps (act amx o v q s)
-- loads and stores
sweeps amx op.LoadPri v q s = search rows
sweeps amx op.LoadAlt v q s = search rows
sweeps amx op.LoadSPri v q s = search rows
sweeps amx op.LoadSAlt v q s = search rows
sweeps amx op.LrefPri v q s = search rows
sweeps amx op.LrefAlt v q s = search rows
sweeps amx op.LrefSPri v q s = search rows
sweeps amx op.LrefSAlt v q s = search rows
sweeps amx op.LoadI v q s = search rows
sweeps amx op.LodbI v q s = search rows
sweeps amx op.ConstPri v q s = goes
sweeps amx op.ConstAlt v q s = goes
sweeps amx op.AddrPri v q s = goes
sweeps amx op.AddrAlt v q s = goes
sweeps amx op.StorPri v q s = search rows
sweeps amx op.StorAlt v q s = search rows
sweeps amx op.StorSPri v q s = search rows
sweeps amx op.StorSAlt v q s = search rows
sweeps amx op.SrefPri v q s = search rows
sweeps amx op.SrefAlt v q s = search rows
sweeps amx op.SrefSPri v q s = search rows
sweeps amx op.SrefSAlt v q s = search rows
sweeps amx op.StorI v q s = search rows
sweeps amx op.StrbI v q s = search rows
-- addresses and registers
sweeps amx op.Lidx v q s = search rows
sweeps amx op.LidxB v q s = search rows
sweeps amx op.Idxaddr v q s = goes
sweeps amx op.IdxaddrB v q s = goes
sweeps amx op.AlignPri v q s = goes
sweeps amx op.AlignAlt v q s = goes
sweeps amx op.Lctrl v q s = goes
sweeps amx op.Sctrl v q s = search rows
sweeps amx op.MovePri v q s = goes
sweeps amx op.MoveAlt v q s = goes
sweeps amx op.Xchg v q s = goes
-- the stack, the heap and frames
sweeps amx op.PushPri v q s = search rows
sweeps amx op.PushAlt v q s = search rows
sweeps amx op.PushC v q s = search rows
sweeps amx op.Push v q s = search rows
sweeps amx op.PushS v q s = search rows
sweeps amx op.PopPri v q s = search rows
sweeps amx op.PopAlt v q s = search rows
sweeps amx op.Stack v q s = search rows
sweeps amx op.Heap v q s = search rows
sweeps amx op.Proc v q s = search rows
sweeps amx op.Ret v q s = search rows
sweeps amx op.Retn v q s = search rows depth 9
-- calls and jumps
sweeps amx op.Call v q s = search rows
sweeps amx op.CallPri v q s = search rows
sweeps amx op.Jump v q s = goes
sweeps amx op.Jrel v q s = goes
sweeps amx op.Jzer v q s = search rows
sweeps amx op.Jnz v q s = search rows
sweeps amx op.Jeq v q s = search rows
sweeps amx op.Jneq v q s = search rows
sweeps amx op.Jless v q s = search rows
sweeps amx op.Jleq v q s = search rows
sweeps amx op.Jgrtr v q s = search rows
sweeps amx op.Jgeq v q s = search rows
sweeps amx op.Jsless v q s = search rows
sweeps amx op.Jsleq v q s = search rows
sweeps amx op.Jsgrtr v q s = search rows
sweeps amx op.Jsgeq v q s = search rows
-- arithmetic
sweeps amx op.Shl v q s = goes
sweeps amx op.Shr v q s = goes
sweeps amx op.Sshr v q s = goes
sweeps amx op.ShlCPri v q s = goes
sweeps amx op.ShlCAlt v q s = goes
sweeps amx op.ShrCPri v q s = goes
sweeps amx op.ShrCAlt v q s = goes
sweeps amx op.Smul v q s = goes
sweeps amx op.Sdiv v q s = search rows
sweeps amx op.SdivAlt v q s = search rows
sweeps amx op.Umul v q s = goes
sweeps amx op.Udiv v q s = search rows
sweeps amx op.UdivAlt v q s = search rows
sweeps amx op.Add v q s = goes
sweeps amx op.Sub v q s = goes
sweeps amx op.SubAlt v q s = goes
sweeps amx op.And v q s = goes
sweeps amx op.Or v q s = goes
sweeps amx op.Xor v q s = goes
sweeps amx op.Not v q s = goes
sweeps amx op.Neg v q s = goes
sweeps amx op.Invert v q s = goes
sweeps amx op.AddC v q s = goes
sweeps amx op.SmulC v q s = goes
-- cells set, tested and counted
sweeps amx op.ZeroPri v q s = goes
sweeps amx op.ZeroAlt v q s = goes
sweeps amx op.Zero v q s = search rows
sweeps amx op.ZeroS v q s = search rows
sweeps amx op.SignPri v q s = goes
sweeps amx op.SignAlt v q s = goes
sweeps amx op.Eq v q s = goes
sweeps amx op.Neq v q s = goes
sweeps amx op.Less v q s = goes
sweeps amx op.Leq v q s = goes
sweeps amx op.Grtr v q s = goes
sweeps amx op.Geq v q s = goes
sweeps amx op.Sless v q s = goes
sweeps amx op.Sleq v q s = goes
sweeps amx op.Sgrtr v q s = goes
sweeps amx op.Sgeq v q s = goes
sweeps amx op.EqCPri v q s = goes
sweeps amx op.EqCAlt v q s = goes
sweeps amx op.IncPri v q s = goes
sweeps amx op.IncAlt v q s = goes
sweeps amx op.Inc v q s = search rows
sweeps amx op.IncS v q s = search rows
sweeps amx op.IncI v q s = search rows
sweeps amx op.DecPri v q s = goes
sweeps amx op.DecAlt v q s = goes
sweeps amx op.Dec v q s = search rows
sweeps amx op.DecS v q s = search rows
sweeps amx op.DecI v q s = search rows
-- blocks of bytes
sweeps amx op.Movs v q s = search rows
sweeps amx op.Cmps v q s = search rows
sweeps amx op.Fill v q s = search rows
-- the host, case tables and others
sweeps amx op.Halt v q s = record { by = (s, refl) }
sweeps amx op.Bounds v q s = search rows
sweeps amx op.SysreqPri v q s = search rows
sweeps amx op.SysreqC v q s = asks
sweeps amx op.JumpPri v q s = search rows
sweeps amx op.Switch v q s = goes
sweeps amx op.Casetbl v q s = errs
sweeps amx op.SwapPri v q s = search rows
sweeps amx op.SwapAlt v q s = search rows
sweeps amx op.PushAdr v q s = search rows
sweeps amx op.Nop v q s = goes
sweeps amx op.Break v q s = goes

by_operation : (amx : Amx) (o : Option Op) (v : ℤ) (q : ℕ) (s : State) → Sweeps (act_by amx o v q s)
by_operation amx None v q s = errs
by_operation amx (Some o) v q s = sweeps amx o v q s

by_instruction : (amx : Amx) (i : Option Instr) (s : State) → Sweeps (act_on amx i s)
by_instruction amx None s = errs
by_instruction amx (Some i) s = by_operation amx (op_of i.op) i.operand (s.cip + 4 * i.cells) s

pub step_sweeps : (amx : Amx) (s : State) → Sweeps (step amx s)
step_sweeps amx s = by_instruction amx (fetched amx.code s.cip) s

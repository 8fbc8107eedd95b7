-- Each operation's row, by its number.
use Rattle.std.proofs.Common.{◌≡◌, ◌≢◌, ◌+◌, ◌*◌, ◌≤◌, true, false, ℕ, ℤ, pos, List, ◌∷◌, ◌++◌}
use Rattle.std.proofs.Common.{Some, length, refl, ap, sym, subst, ◌∙◌, arith}
use Rattle.amx_ops.specs.declared.op.Op.{Op}
use Rattle.amx_ops.specs.declared.op.Op.TheVariants as op
use Rattle.amx_ops.specs.declared.table.Operand.{Operand}
use Rattle.amx_ops.specs.declared.table.Operand.TheVariants as operand
use Rattle.amx_ops.specs.Table.{row_at, row_of, op_of, operand_at, operand_by, number_of}
use Rattle.amx_ops.specs.Table.{operand_of}
use Rattle.amx_ops.specs.Valid.{is_cases_kind}
use Rattle.amx_ops.specs.Instructions.{Instruction, placed_from, front, cells_by, cells, encoded}
use Rattle.amx_ops.specs.Instructions.{IsProper, IsEncodable, IsEncodableBy, encoded_by, instr_by}
use Rattle.amx_ops.specs.Instructions.{instr}

-- the row of an operation
pub record HasRow (o : Op) : Type 0 where
  pub name : List ℕ
  pub row : row_of (number_of o)
      ≡ Some (record { number = number_of o; op = o; name = name; operand = operand_of o })

pub has_row : (o : Op) → HasRow o
unfolding row_at
has_row op.LoadPri = record { name = _; row = refl }
has_row op.LoadAlt = record { name = _; row = refl }
has_row op.LoadSPri = record { name = _; row = refl }
has_row op.LoadSAlt = record { name = _; row = refl }
has_row op.LrefPri = record { name = _; row = refl }
has_row op.LrefAlt = record { name = _; row = refl }
has_row op.LrefSPri = record { name = _; row = refl }
has_row op.LrefSAlt = record { name = _; row = refl }
has_row op.LoadI = record { name = _; row = refl }
has_row op.LodbI = record { name = _; row = refl }
has_row op.ConstPri = record { name = _; row = refl }
has_row op.ConstAlt = record { name = _; row = refl }
has_row op.AddrPri = record { name = _; row = refl }
has_row op.AddrAlt = record { name = _; row = refl }
has_row op.StorPri = record { name = _; row = refl }
has_row op.StorAlt = record { name = _; row = refl }
has_row op.StorSPri = record { name = _; row = refl }
has_row op.StorSAlt = record { name = _; row = refl }
has_row op.SrefPri = record { name = _; row = refl }
has_row op.SrefAlt = record { name = _; row = refl }
has_row op.SrefSPri = record { name = _; row = refl }
has_row op.SrefSAlt = record { name = _; row = refl }
has_row op.StorI = record { name = _; row = refl }
has_row op.StrbI = record { name = _; row = refl }
has_row op.Lidx = record { name = _; row = refl }
has_row op.LidxB = record { name = _; row = refl }
has_row op.Idxaddr = record { name = _; row = refl }
has_row op.IdxaddrB = record { name = _; row = refl }
has_row op.AlignPri = record { name = _; row = refl }
has_row op.AlignAlt = record { name = _; row = refl }
has_row op.Lctrl = record { name = _; row = refl }
has_row op.Sctrl = record { name = _; row = refl }
has_row op.MovePri = record { name = _; row = refl }
has_row op.MoveAlt = record { name = _; row = refl }
has_row op.Xchg = record { name = _; row = refl }
has_row op.PushPri = record { name = _; row = refl }
has_row op.PushAlt = record { name = _; row = refl }
has_row op.PushC = record { name = _; row = refl }
has_row op.Push = record { name = _; row = refl }
has_row op.PushS = record { name = _; row = refl }
has_row op.PopPri = record { name = _; row = refl }
has_row op.PopAlt = record { name = _; row = refl }
has_row op.Stack = record { name = _; row = refl }
has_row op.Heap = record { name = _; row = refl }
has_row op.Proc = record { name = _; row = refl }
has_row op.Ret = record { name = _; row = refl }
has_row op.Retn = record { name = _; row = refl }
has_row op.Call = record { name = _; row = refl }
has_row op.CallPri = record { name = _; row = refl }
has_row op.Jump = record { name = _; row = refl }
has_row op.Jrel = record { name = _; row = refl }
has_row op.Jzer = record { name = _; row = refl }
has_row op.Jnz = record { name = _; row = refl }
has_row op.Jeq = record { name = _; row = refl }
has_row op.Jneq = record { name = _; row = refl }
has_row op.Jless = record { name = _; row = refl }
has_row op.Jleq = record { name = _; row = refl }
has_row op.Jgrtr = record { name = _; row = refl }
has_row op.Jgeq = record { name = _; row = refl }
has_row op.Jsless = record { name = _; row = refl }
has_row op.Jsleq = record { name = _; row = refl }
has_row op.Jsgrtr = record { name = _; row = refl }
has_row op.Jsgeq = record { name = _; row = refl }
has_row op.Shl = record { name = _; row = refl }
has_row op.Shr = record { name = _; row = refl }
has_row op.Sshr = record { name = _; row = refl }
has_row op.ShlCPri = record { name = _; row = refl }
has_row op.ShlCAlt = record { name = _; row = refl }
has_row op.ShrCPri = record { name = _; row = refl }
has_row op.ShrCAlt = record { name = _; row = refl }
has_row op.Smul = record { name = _; row = refl }
has_row op.Sdiv = record { name = _; row = refl }
has_row op.SdivAlt = record { name = _; row = refl }
has_row op.Umul = record { name = _; row = refl }
has_row op.Udiv = record { name = _; row = refl }
has_row op.UdivAlt = record { name = _; row = refl }
has_row op.Add = record { name = _; row = refl }
has_row op.Sub = record { name = _; row = refl }
has_row op.SubAlt = record { name = _; row = refl }
has_row op.And = record { name = _; row = refl }
has_row op.Or = record { name = _; row = refl }
has_row op.Xor = record { name = _; row = refl }
has_row op.Not = record { name = _; row = refl }
has_row op.Neg = record { name = _; row = refl }
has_row op.Invert = record { name = _; row = refl }
has_row op.AddC = record { name = _; row = refl }
has_row op.SmulC = record { name = _; row = refl }
has_row op.ZeroPri = record { name = _; row = refl }
has_row op.ZeroAlt = record { name = _; row = refl }
has_row op.Zero = record { name = _; row = refl }
has_row op.ZeroS = record { name = _; row = refl }
has_row op.SignPri = record { name = _; row = refl }
has_row op.SignAlt = record { name = _; row = refl }
has_row op.Eq = record { name = _; row = refl }
has_row op.Neq = record { name = _; row = refl }
has_row op.Less = record { name = _; row = refl }
has_row op.Leq = record { name = _; row = refl }
has_row op.Grtr = record { name = _; row = refl }
has_row op.Geq = record { name = _; row = refl }
has_row op.Sless = record { name = _; row = refl }
has_row op.Sleq = record { name = _; row = refl }
has_row op.Sgrtr = record { name = _; row = refl }
has_row op.Sgeq = record { name = _; row = refl }
has_row op.EqCPri = record { name = _; row = refl }
has_row op.EqCAlt = record { name = _; row = refl }
has_row op.IncPri = record { name = _; row = refl }
has_row op.IncAlt = record { name = _; row = refl }
has_row op.Inc = record { name = _; row = refl }
has_row op.IncS = record { name = _; row = refl }
has_row op.IncI = record { name = _; row = refl }
has_row op.DecPri = record { name = _; row = refl }
has_row op.DecAlt = record { name = _; row = refl }
has_row op.Dec = record { name = _; row = refl }
has_row op.DecS = record { name = _; row = refl }
has_row op.DecI = record { name = _; row = refl }
has_row op.Movs = record { name = _; row = refl }
has_row op.Cmps = record { name = _; row = refl }
has_row op.Fill = record { name = _; row = refl }
has_row op.Halt = record { name = _; row = refl }
has_row op.Bounds = record { name = _; row = refl }
has_row op.SysreqPri = record { name = _; row = refl }
has_row op.SysreqC = record { name = _; row = refl }
has_row op.JumpPri = record { name = _; row = refl }
has_row op.Switch = record { name = _; row = refl }
has_row op.Casetbl = record { name = _; row = refl }
has_row op.SwapPri = record { name = _; row = refl }
has_row op.SwapAlt = record { name = _; row = refl }
has_row op.PushAdr = record { name = _; row = refl }
has_row op.Nop = record { name = _; row = refl }
has_row op.Break = record { name = _; row = refl }

pub op_is : (o : Op) → op_of (number_of o) ≡ Some o
op_is o = rw (has_row o).row refl

pub row_is : (o : Op) → operand_at (pos (number_of o)) ≡ Some (number_of o, operand_of o)
row_is o = ap operand_by (has_row o).row

-- what is encoded by the number of an operation
pub encoded_is : (o : Op) (v : ℤ) → encoded (number_of o) v ≡ cells (record { op = o; operand = v })
encoded_is o v = ap (λ r. encoded_by r v) (row_is o)

pub encodable : (o : Op) (v : ℤ) → IsProper (operand_of o) v → IsEncodable (number_of o) v
encodable o v h = subst (λ r. IsEncodableBy r v) (sym (row_is o)) h

-- it is read back, whatever stands behind it
front_by : (n : ℕ) (v : ℤ) (kind : Operand) (rest : List ℤ) → kind ≢ operand.Cases
    → operand_at (pos n) ≡ Some (n, kind)
    → front (cells_by n v kind ++ rest) ≡ Some (instr_by n v kind)
front_by n v operand.Cases rest h e = elim (h refl) [ ]
front_by n v kind rest h e = rw e refl

pub front_is : (i : Instruction) (rest : List ℤ) → operand_of i.op ≢ operand.Cases
    → front (cells i ++ rest) ≡ Some (instr i)
front_is i rest h = front_by (number_of i.op) i.operand (operand_of i.op) rest h (row_is i.op)

size_by : (n : ℕ) (v : ℤ) (kind : Operand) → length (cells_by n v kind) ≡ (instr_by n v kind).cells
size_by n v operand.Nothing = refl
size_by n v kind = refl

pub size_is : (i : Instruction) → length (cells i) ≡ (instr i).cells
size_is i = size_by (number_of i.op) i.operand (operand_of i.op)

op_by : (n : ℕ) (v : ℤ) (kind : Operand) → (instr_by n v kind).op ≡ n
op_by n v operand.Nothing = refl
op_by n v kind = refl

pub number_is : (i : Instruction) → (instr i).op ≡ number_of i.op
number_is i = op_by (number_of i.op) i.operand (operand_of i.op)

-- its operation, as the machine has it
pub acts_as : (i : Instruction) → op_of (instr i).op ≡ Some i.op
acts_as i = ap op_of (op_by (number_of i.op) i.operand (operand_of i.op)) ∙ op_is i.op

takes_by : (n : ℕ) (v : ℤ) (kind : Operand) → 1 ≤ (instr_by n v kind).cells
takes_by n v operand.Nothing = omega arith
takes_by n v kind = omega arith

-- it takes at least a cell
pub takes : (i : Instruction) → 1 ≤ (instr i).cells
takes i = takes_by (number_of i.op) i.operand (operand_of i.op)

no_cases : true ≡ false → ⊥
no_cases e = cc

pub plain_kind : (kind : Operand) → is_cases_kind kind ≡ false → kind ≢ operand.Cases
plain_kind kind h e = no_cases (ap is_cases_kind (sym e) ∙ h)

pub placed_by_kind : (p n : ℕ) (v : ℤ) (kind : Operand) (rest : List ℤ) → kind ≢ operand.Cases
    → operand_at (pos n) ≡ Some (n, kind)
    → placed_from p 0 (cells_by n v kind ++ rest)
    ≡ record { at = p; instr = instr_by n v kind }
    ∷ placed_from (p + 4 * (instr_by n v kind).cells) 0 rest
placed_by_kind p n v operand.Nothing rest h e = rw e refl
placed_by_kind p n v operand.Cases rest h e = elim (h refl) [ ]
placed_by_kind p n v kind rest h e = let q : p + 4 + 4 ≡ p + 8 = omega arith in rw (e, q) refl

-- an instruction stands in front of the others
pub placed_first : (p : ℕ) (i : Instruction) (rest : List ℤ)
    → is_cases_kind (operand_of i.op) ≡ false
    → placed_from p 0 (cells i ++ rest)
    ≡ record { at = p; instr = instr i } ∷ placed_from (p + 4 * (instr i).cells) 0 rest
placed_first p i rest h =
    placed_by_kind p (number_of i.op) i.operand (operand_of i.op) rest
    (plain_kind (operand_of i.op) h) (row_is i.op)

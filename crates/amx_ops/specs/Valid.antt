-- Valid code: what the verifier accepts, and what the machine is asked for. The first fault stands
-- first in the order below: instruction by instruction whether each is whole and has a proper
-- operand, then instruction by instruction where each leads, then the entries.
use Rattle.std.specs.Prelude.{◌≡◌, ◌+◌, ◌-◌, ◌*◌, ◌/◌, ◌%◌, ℕ, zero, suc, ℤ, pos, negsuc, List, []}
use Rattle.std.specs.Prelude.{◌∷◌, Bool, true, false, ◌==◌, ◌&&◌, ◌||◌, Option, None, Some, drop}
use Rattle.std.specs.Prelude.{nat_lt, if◌then◌else◌}
use Rattle.std.specs.List.{list_any}
use Rattle.pawn_cells.specs.Cells.{bits_of, wrapped_sum, equal}
use Rattle.amx_ops.specs.declared.table.Operand.{Operand}
use Rattle.amx_ops.specs.declared.table.Operand.TheVariants as operand
use Rattle.amx_ops.specs.Table.{Row, row_of, row_at}
use Rattle.amx_ops.specs.Instructions.{Placed, placed_from, cells_in, is_start}

-- what is wrong, with the address of its instruction; an entry by its public's number, main's being
-- -1
pub data Fault : Type 0 where
  -- 100: no instruction has this number
  Opcode : ℕ → Fault
  -- 101: it passes the code's end
  Cut : ℕ → Fault
  -- 102: an address where no instruction starts
  Target : ℕ → Fault
  -- 103: a negative count, an address that is no case table's, or one in a table where no
  -- instruction starts
  CaseTable : ℕ → Fault
  -- 104: no such native
  Native : ℕ → Fault
  -- 105: no such register
  Register : ℕ → Fault
  -- 106: no such number of bytes
  ByteCount : ℕ → Fault
  -- 107: an entry where no instruction starts
  Entry : ℤ → Fault

-- the first of two, if there is one
abbrev pub or_else : Option Fault → Option Fault → Option Fault
or_else None others = others
or_else (Some fault) others = Some fault

-- a fault where a test fails
abbrev pub unless : Bool → Fault → Option Fault
unless true fault = None
unless false fault = Some fault

-- the first fault of some instructions
abbrev pub first_of : (Placed → Option Fault) → List Placed → Option Fault
first_of fault [] = None
first_of fault (it ∷ its) = or_else (fault it) (first_of fault its)

-- ---- whole instructions with proper operands

-- from 0 to below a number
abbrev pub is_below : ℤ → ℕ → Bool
is_below (pos n) m = nat_lt n m
is_below (negsuc n) m = false

-- a multiple of 4
abbrev pub is_multiple : ℤ → Bool
is_multiple v = bits_of v % 4 == 0

-- not below 0
abbrev pub is_length : ℤ → Bool
is_length (pos n) = true
is_length (negsuc n) = false

-- the operand v of an instruction at an address, in a file with so many natives
abbrev pub operand_fault : ℕ → Operand → ℤ → ℕ → Option Fault
operand_fault natives operand.ByteCount v at =
    unless (equal v (pos 1) || equal v (pos 2) || equal v (pos 4)) (ByteCount at)
operand_fault natives operand.Register v at = unless (is_below v 7) (Register at)
operand_fault natives operand.SetRegister v at =
    unless (equal v (pos 2) || equal v (pos 4) || equal v (pos 5) || equal v (pos 6)) (Register at)
operand_fault natives operand.Multiple v at = unless (is_multiple v) (ByteCount at)
operand_fault natives operand.Length v at = unless (is_length v) (ByteCount at)
operand_fault natives operand.CellsLength v at =
    unless (is_length v && is_multiple v) (ByteCount at)
operand_fault natives operand.NativeNumber v at = unless (is_below v natives) (Native at)
operand_fault natives kind v at = None

-- the same by the row of the instruction's number
abbrev pub row_fault : ℕ → Option Row → ℤ → ℕ → Option Fault
row_fault natives None v at = None
row_fault natives (Some row) v at = operand_fault natives row.operand v at

-- whether an instruction has a proper operand
abbrev pub proper : ℕ → Placed → Option Fault
proper natives it = row_fault natives (row_of it.instr.op) it.instr.operand it.at

-- why no whole instruction stands at the front of some cells: a negative count is told where the
-- fixed part of its table is there
abbrev pub table_fault : List ℤ → ℕ → Fault
table_fault [] at = Cut at
table_fault (count ∷ []) at = Cut at
table_fault (pos count ∷ default ∷ pairs) at = Cut at
table_fault (negsuc count ∷ default ∷ pairs) at = CaseTable at

-- the same by the kind of operand, with the cells behind the number
abbrev pub kind_fault : Operand → List ℤ → ℕ → Fault
kind_fault operand.Cases cells at = table_fault cells at
kind_fault kind cells at = Cut at

-- and by the row of the number, which the table may not have
abbrev pub broken_by : Option Row → List ℤ → ℕ → Fault
broken_by None cells at = Opcode at
broken_by (Some row) cells at = kind_fault row.operand cells at

-- where a row of instructions stops before the end of its cells
abbrev pub broken : List ℤ → ℕ → Option Fault
broken [] at = None
broken (cell ∷ cells) at = Some (broken_by (row_at cell) cells at)

-- ---- where they lead

-- an address where an instruction starts
abbrev pub leads : (ℕ → Bool) → ℤ → Bool
leads starts (pos at) = starts at
leads starts (negsuc n) = false

-- the operand of a case table
abbrev pub is_cases_kind : Operand → Bool
is_cases_kind operand.Cases = true
is_cases_kind kind = false

-- the row of a case table
abbrev pub is_cases : Option Row → Bool
is_cases None = false
is_cases (Some row) = is_cases_kind row.operand

-- a case table of some instructions stands at the address
abbrev pub is_table : List Placed → ℤ → Bool
is_table its (pos at) =
    list_any (λ (it : Placed). (it.at == at) && is_cases (row_of it.instr.op)) its
is_table its (negsuc n) = false

-- so many addresses, each but the last with a value behind it
abbrev pub all_lead : (ℕ → Bool) → ℕ → List ℤ → Bool
all_lead starts zero cells = true
all_lead starts (suc n) [] = false
all_lead starts (suc n) (at ∷ []) = leads starts at && all_lead starts n []
all_lead starts (suc n) (at ∷ value ∷ cells) = leads starts at && all_lead starts n cells

-- the address behind an instruction
abbrev pub next_of : Placed → ℕ
next_of it = it.at + 4 * it.instr.cells

-- code that begins at an address, among starts that may lie outside it
module _ (starts : ℕ → Bool) (begin : ℕ) (cells : List ℤ) where
  -- where an instruction leads, by its kind of operand
  abbrev pub link_fault : Operand → Placed → Option Fault
  link_fault operand.Target it = unless (leads starts it.instr.operand) (Target it.at)
  link_fault operand.Relative it =
      unless (starts (wrapped_sum (next_of it) (bits_of it.instr.operand))) (Target it.at)
  link_fault operand.CaseTable it =
      unless (is_table (placed_from begin 0 cells) it.instr.operand) (CaseTable it.at)
  link_fault operand.Cases it =
      unless (all_lead starts (bits_of it.instr.operand + 1) (drop ((it.at - begin) / 4 + 2) cells))
      (CaseTable it.at)
  link_fault kind it = None

  -- by the row of its number
  abbrev pub linked_by : Option Row → Placed → Option Fault
  linked_by None it = None
  linked_by (Some row) it = link_fault row.operand it

  -- whether an instruction leads where it may
  abbrev pub linked : Placed → Option Fault
  linked it = linked_by (row_of it.instr.op) it

-- the first fault of a piece of code that begins at an address, in a file with so many natives
abbrev pub piece_fault : ℕ → (ℕ → Bool) → ℕ → List ℤ → Option Fault
piece_fault natives starts begin cells =
    let its = placed_from begin 0 cells in
    or_else (first_of (proper natives) its)
    (or_else (broken (drop (cells_in its) cells) (begin + 4 * cells_in its))
    (first_of (linked starts begin cells) its))

-- a piece of code without a fault
abbrev pub IsPiece : ℕ → (ℕ → Bool) → ℕ → List ℤ → Type 0
IsPiece natives starts begin cells = piece_fault natives starts begin cells ≡ None

-- ---- a file

-- an entry, by its public's number or -1, where no instruction starts
abbrev pub entry_fault : List ℤ → ℤ → ℤ → Option Fault
entry_fault code number address = unless (leads (is_start code) address) (Entry number)

-- main, where there is one
abbrev pub main_fault : List ℤ → ℤ → Option Fault
main_fault code entry = if equal entry (negsuc 0) then None else entry_fault code (negsuc 0) entry

-- the publics from a number on
abbrev pub publics_fault : List ℤ → ℕ → List ℤ → Option Fault
publics_fault code n [] = None
publics_fault code n (address ∷ addresses) =
    or_else (entry_fault code (pos n) address) (publics_fault code (n + 1) addresses)

-- code with so many natives, main's address or -1, and the addresses of the publics
abbrev pub first_fault : List ℤ → ℕ → ℤ → List ℤ → Option Fault
first_fault code natives entry publics =
    or_else (piece_fault natives (is_start code) 0 code)
    (or_else (main_fault code entry) (publics_fault code 0 publics))

-- valid code has no fault
abbrev pub IsValid : List ℤ → ℕ → ℤ → List ℤ → Type 0
IsValid code natives entry publics = first_fault code natives entry publics ≡ None

-- What the instructions do to registers, to the stack and to the address of the next instruction
-- (Implementer's Guide, "Instruction reference").
use Rattle.std.specs.Prelude.{◌+◌, ◌*◌, ◌/◌, ◌%◌, ℕ, zero, suc, ℤ, pos, negsuc, List, [], ◌∷◌, Bool}
use Rattle.std.specs.Prelude.{true, false, ◌==◌, length, drop, nat_le, nat_lt, if◌then◌else◌}
use Rattle.std.specs.List.{slice_index_or}
use Rattle.pawn_cells.specs.Cells.{bits_of, cell_of, equal, is_zero}
use Rattle.amx_ops.specs.declared.amx.Amx.{Amx}
use Rattle.amx_ops.specs.Instructions.{is_start}
use Rattle.amx_ops.specs.State.{State, Turned, Goes, Errs, Asks, stp, first_hea, with_margin, swept}

-- it goes on at the next address
abbrev pub at_next : ℕ → State → Turned
at_next next s = Goes (record s { cip = next })

-- ---- jumps

-- to an address that is computed: error 6 where no instruction starts there
abbrev pub jump : Amx → ℕ → State → Turned
jump amx at s = if is_start amx.code at then at_next at s else Errs (pos 6)

-- to an address where a test holds, else to the next one
abbrev pub jump_if : Bool → ℕ → ℕ → State → Turned
jump_if true at next s = at_next at s
jump_if false at next s = at_next next s

-- the address of the first of so many pairs with a value, or another one
abbrev pub paired : List ℤ → ℤ → ℕ → ℕ → ℕ
paired cells v zero other = other
paired [] v (suc n) other = other
paired (x ∷ []) v (suc n) other = other
paired (x ∷ at ∷ cells) v (suc n) other = if equal x v then bits_of at else paired cells v n other

-- the same in the cells of a case table: its count, its default, and the pairs
abbrev pub case_in : List ℤ → ℤ → ℕ
case_in [] v = 0
case_in (count ∷ []) v = 0
case_in (count ∷ default ∷ pairs) v = paired pairs v (bits_of count) (bits_of default)

-- where the case table at an address leads a value
abbrev pub case_of : Amx → ℕ → ℤ → ℕ
case_of amx at v = case_in (drop (at / 4 + 1) amx.code) v

-- ---- registers

-- 0 for number 0, the code's length, HEA, STP, STK, FRM and the next address
abbrev pub register : Amx → ℕ → ℕ → State → ℤ
register amx next number s =
    slice_index_or (pos 0 ∷ cell_of (4 * length amx.code) ∷ cell_of s.hea ∷ cell_of (stp s)
    ∷ cell_of s.stk ∷ cell_of s.frm
    ∷ cell_of next ∷ []) number (pos 0)

-- quotient and remainder: error 11 for a divisor of 0
abbrev pub divide : (ℤ → ℤ → ℤ) → (ℤ → ℤ → ℤ) → ℤ → ℤ → ℕ → State → Turned
divide quotient rest a d next s =
    if is_zero d then Errs (pos 11)
    else at_next next (record s { pri = quotient a d; alt = rest a d })

-- ---- stack and heap

-- STK at a whole number: error 7 above the top, error 3 without the margin
abbrev pub stack_to : ℤ → ℕ → State → Turned
stack_to (pos stk) next s =
    if nat_le stk (stp s) then with_margin (record s { stk = stk }) (at_next next) else Errs (pos 7)
stack_to (negsuc n) next s = Errs (pos 3)

-- HEA at a whole number: error 8 below the first HEA, error 3 without the margin
abbrev pub heap_to : Amx → ℤ → ℕ → State → Turned
heap_to amx (pos hea) next s =
    if nat_le (first_hea amx) hea then with_margin (record s { hea = hea }) (at_next next)
    else Errs (pos 8)
heap_to amx (negsuc n) next s = Errs (pos 8)

-- error 5 for no multiple of 4
abbrev pub when_multiple : ℤ → Turned → Turned
when_multiple v go = if bits_of v % 4 == 0 then go else Errs (pos 5)

-- HEA, STK, FRM or CIP from PRI, by the number 2, 4, 5 or 6
abbrev pub set_register : Amx → ℕ → ℕ → State → Turned
set_register amx next number s =
    if number == 2 then when_multiple s.pri (heap_to amx s.pri next s)
    else (if number == 4 then when_multiple s.pri (stack_to s.pri next s)
    else (if number == 5 then at_next next (record s { frm = bits_of s.pri })
    else jump amx (bits_of s.pri) s))

-- FRM, CIP and a count were popped
abbrev pub returned : Amx → (frm cip count : ℕ) → State → Turned
returned amx frm cip count s =
    if count % 4 == 0
    then (if nat_le (s.stk + count) (stp s)
    then (if is_start amx.code cip
    then Goes (record s { frm = frm; cip = cip; stk = s.stk + count }) else Errs (pos 6))
    else Errs (pos 7))
    else Errs (pos 5)

-- ---- the host

-- a sleep sweeps what is dead
abbrev pub swept_if : Bool → State → State
swept_if true s = swept s
swept_if false s = s

-- error 19 for a number that no native has
abbrev pub ask : Amx → ℕ → State → Turned
ask amx number s = if nat_lt number (length amx.natives) then Asks number s else Errs (pos 19)

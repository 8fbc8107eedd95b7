-- Texts as lines: their spelling, the order of their lines, and their first faults, computed.
use Rattle.std.proofs.Common.{◌≡◌, ℕ, ℤ, pos, negsuc, List, [], ◌∷◌, ◌++◌, codes, refl, true, false}
use Rattle.std.proofs.Common.{Option, None, Some}
use Rattle.std.specs.Fmt.{digits}
use Rattle.std.specs.List.{flat_map}
use Rattle.amx_ops.specs.declared.op.Op.TheVariants as ops
use Rattle.amx_ops.specs.Table.{row_at}
use Rattle.amx_ops.specs.Written.{Written}
use Rattle.amx_text.specs.declared.fault.AsmFault.{AsmFault}
use Rattle.amx_text.specs.declared.fault.AsmFault.TheVariants.{Limit, Address, Count, Invalid}
use Rattle.amx_text.specs.declared.kind.Kind.TheVariants.{Public, Native}
use Rattle.amx_text.specs.Lines.{Header, address_text}
use Rattle.amx_text.specs.Forms.{Line, HeaderLine, RecordLine, CodeLine, InstructionLine, DataLine}
use Rattle.amx_text.specs.Forms.{CellsLine, EndLine, line_text, may_follow}
use Rattle.amx_text.specs.Texts.{are_in_order}
use Rattle.amx_text.specs.Faults.{fault_of}

-- a header with so many cells of code and of data, and main
abbrev header : ℕ → ℕ → ℤ → Header
header code store entry = record
    { flags = 0; version = 8; code = code; store = store; room = 4096; entry = entry }

abbrev halt : Written
halt = record { op = ops.Halt; operand = pos 0; table = [] }

abbrev proc : Written
proc = record { op = ops.Proc; operand = pos 0; table = [] }

abbrev zero_pri : Written
zero_pri = record { op = ops.ZeroPri; operand = pos 0; table = [] }

abbrev retn : Written
retn = record { op = ops.Retn; operand = pos 0; table = [] }

abbrev jump : ℤ → Written
jump at = record { op = ops.Jump; operand = at; table = [] }

-- a text with these lines between its header and its data, which is none
abbrev lines_of : Header → List Line → List Line
lines_of it lines = HeaderLine it ∷ (lines ++ (DataLine ∷ EndLine ∷ []))

-- its first fault
abbrev first_fault : Header → List Line → Option AsmFault
first_fault it lines = fault_of it (lines_of it lines)

-- HALT 0; PROC, ZERO.pri, RETN
abbrev empty_main : List Line
empty_main =
    CodeLine ∷ InstructionLine 0 halt ∷ InstructionLine 8 proc ∷ InstructionLine 12 zero_pri
    ∷ InstructionLine 16 retn ∷ []

-- ---- spelled, and in order

of_an_empty_main : flat_map line_text (lines_of (header 5 0 (pos 8)) empty_main)
    ≡ codes "amx flags 0 version 8 code 5 data 0 room 4096 entry 8\n"
    ++ (codes "code\n00000000 HALT 0\n00000008 PROC\n"
    ++ codes "0000000c ZERO.pri\n00000010 RETN\ndata\nend\n")
unfolding row_at address_text digits
of_an_empty_main = refl

-- the count, the default and the pairs stand behind the name of a case table
of_a_case_table : line_text (InstructionLine 20 (record {
  op = ops.Casetbl;
  operand = pos 1;
  table = pos 48 ∷ negsuc 2 ∷ pos 52 ∷ [];
}))
    ≡ codes "00000014 CASETBL 1 48 -3 52\n"
unfolding row_at address_text digits
of_a_case_table = refl

in_order : are_in_order None (lines_of (header 5 0 (pos 8)) empty_main) ≡ true
in_order = refl

-- a public behind a native
tables_in_order : may_follow
    (Some (RecordLine Native (record { address = pos 0; name = codes "p" })))
    (RecordLine Public (record { address = pos 8; name = codes "a" })) ≡ false
tables_in_order = refl

-- cells behind fewer than eight
short_row_is_last : may_follow (Some (CellsLine 0 (pos 1 ∷ []))) (CellsLine 4 (pos 2 ∷ []))
    ≡ false
short_row_is_last = refl

nothing_behind_end : may_follow (Some EndLine) EndLine ≡ false
nothing_behind_end = refl

-- ---- first faults

good : first_fault (header 5 0 (pos 8)) empty_main ≡ None
unfolding row_at
good = refl

-- 144, also where the lines have fewer cells
too_much_code : first_fault (header 33554433 0 (pos 8)) empty_main ≡ Some Limit
unfolding row_at
too_much_code = refl

-- 141 at line 4
another_address : first_fault (header 5 0 (pos 8)) (CodeLine ∷ InstructionLine 0 halt
    ∷ InstructionLine 10 proc ∷ InstructionLine 12 zero_pri ∷ InstructionLine 16 retn ∷ [])
    ≡ Some (Address 4)
unfolding row_at
another_address = refl

-- 141 where an instruction is missing before others, and 142 where it is the last
first_left_out : first_fault (header 5 0 (pos 8)) (CodeLine ∷ InstructionLine 0 halt
    ∷ InstructionLine 12 zero_pri ∷ InstructionLine 16 retn ∷ []) ≡ Some (Address 4)
unfolding row_at
first_left_out = refl

last_left_out : first_fault (header 5 0 (pos 8)) (CodeLine ∷ InstructionLine 0 halt
    ∷ InstructionLine 8 proc ∷ InstructionLine 12 zero_pri ∷ []) ≡ Some (Count 6)
unfolding row_at
last_left_out = refl

-- data that isn't there is told at the end
no_data : first_fault (header 5 1 (pos 8)) empty_main ≡ Some (Count 8)
unfolding row_at
no_data = refl

-- 143 at the jump to an operand
jump_to_an_operand : first_fault (header 5 0 (pos 8)) (CodeLine ∷ InstructionLine 0 halt
    ∷ InstructionLine 8 (jump (pos 4)) ∷ InstructionLine 16 retn ∷ []) ≡ Some (Invalid 4)
unfolding row_at
jump_to_an_operand = refl

-- at the header for main, and at its record for a public
main_at_an_operand : first_fault (header 5 0 (pos 4)) empty_main ≡ Some (Invalid 1)
unfolding row_at
main_at_an_operand = refl

public_at_an_operand : first_fault (header 5 0 (pos 8))
    (RecordLine Public (record { address = pos 8; name = codes "a" })
    ∷ RecordLine Public (record { address = pos 4; name = codes "b" }) ∷ empty_main)
    ≡ Some (Invalid 3)
unfolding row_at
public_at_an_operand = refl

-- The parts of the first fault, as they are met from the front of the code on.
use Rattle.std.specs.Prelude.{◌≡◌, ◌+◌, ◌*◌, ℕ, ℤ, List, Option, None, Some, Result, Ok, Err, drop}
use Rattle.amx_ops.specs.declared.instr.Instr.{Instr}
use Rattle.amx_ops.specs.Instructions.{placed_from, cells_in, front, is_start}
use Rattle.amx_ops.specs.Valid.{Fault, or_else, first_of, proper, broken, linked}
use Rattle.amx_verify.specs.declared.fault.VerifyFault.{VerifyFault}
use Rattle.amx_verify.specs.Verdict.{Tells}

-- cells from an address on that aren't whole instructions with proper operands
abbrev pub whole_fault : ℕ → ℕ → List ℤ → Option Fault
whole_fault natives at cells =
    let its = placed_from at 0 cells in
    or_else (first_of (proper natives) its)
    (broken (drop (cells_in its) cells) (at + 4 * cells_in its))

-- instructions from an address on that lead where none starts in the code
abbrev pub link_fault_from : List ℤ → ℕ → List ℤ → Option Fault
link_fault_from code at cells = first_of (linked (is_start code) 0 code) (placed_from at 0 cells)

-- the fault of what the cells begin with, by itself
abbrev pub at_front : ℕ → ℕ → List ℤ → Option Instr → Option Fault
at_front natives at cells None = broken cells at
at_front natives at cells (Some i) = proper natives (record { at = at; instr = i })

-- the size of the instruction at the front, or its fault
abbrev pub FrontIs : ℕ → ℕ → List ℤ → Result ℕ VerifyFault → Type 0
FrontIs natives at cells (Ok size) =
    (i : Instr) × (front cells ≡ Some i) × (size ≡ i.cells)
    × (proper natives (record { at = at; instr = i }) ≡ None)
FrontIs natives at cells (Err fault) = Tells fault (at_front natives at cells (front cells))

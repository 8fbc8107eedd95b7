-- The code of a valid program, with its functions' addresses as entries, has no fault.
use Rattle.std.specs.Prelude.{◌^◌, ◌<◌, ℕ, ℤ, pos, negsuc, List, All, Option, None, Some, length}
use Rattle.std.specs.Prelude.{map}
use Rattle.pawn_meaning.specs.Program.{Automaton, Public, Program}
use Rattle.pawn_meaning.specs.Valid.{IsValid}
use Rattle.amx_ops.specs.Valid as machine
use Rattle.gen_laws.specs.FileCode.{entry_of, code_of}

-- main's address, or -1
abbrev pub main_by : Program → Option ℕ → ℤ
main_by program None = negsuc 0
main_by program (Some f) = pos (entry_of program f)

-- the addresses of the public functions, in their order
abbrev pub publics_of : Program → List ℤ
publics_of program = map (λ (it : Public). pos (entry_of program it.function)) program.publics

-- where the number of each state of an automaton fits in a cell
abbrev pub CodeIsValid : Type 0
CodeIsValid =
    (program : Program) → IsValid program
    → All (λ (it : Automaton). length it.states < 2 ^ 31) program.automata
    → machine.IsValid (code_of program) (length program.natives) (main_by program program.entry)
    (publics_of program)

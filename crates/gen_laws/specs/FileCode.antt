-- The code of a whole program: HALT 0 at address 0, to which the entry function returns, and then
-- the functions.
use Rattle.std.specs.Prelude.{ℕ, zero, suc, ℤ, pos, List, [], ◌∷◌, ◌++◌}
use Rattle.pawn_meaning.specs.Program.{Function, Program}
use Rattle.amx_ops.specs.declared.op.Op.TheVariants as op
use Rattle.gen_sim.specs.Items.{Item, cells_with, past}
use Rattle.gen_sim.specs.SimpleCode.{taking}
use Rattle.gen_laws.specs.FunctionCode.{function_items}

-- one behind another
abbrev pub functions_items : Program → ℕ → List Function → List Item
functions_items program begin [] = []
functions_items program begin (function ∷ functions) =
    let one = function_items program begin function in
    one ++ functions_items program (past begin one) functions

-- where one of them begins, by its number
abbrev pub function_begin : Program → ℕ → List Function → ℕ → ℕ
function_begin program begin [] f = begin
function_begin program begin (function ∷ functions) zero = begin
function_begin program begin (function ∷ functions) (suc f) =
    function_begin program (past begin (function_items program begin function)) functions f

-- a function's address, behind HALT 0
abbrev pub entry_of : Program → ℕ → ℕ
entry_of program f = function_begin program 8 program.functions f

-- all items of the code, in their order
abbrev pub program_items : Program → List Item
program_items program = taking op.Halt (pos 0) ∷ functions_items program 8 program.functions

-- with the functions' addresses in all calls
abbrev pub code_of : Program → List ℤ
code_of program = cells_with (entry_of program) (program_items program)

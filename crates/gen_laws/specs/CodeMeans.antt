-- The code of each valid expression is all that its contract says, in every scope, behind any code,
-- and whatever waits there: it does what the expression means, in whatever file of the program it
-- lies.
use Rattle.std.specs.Prelude.{◌*◌, ℕ, ℤ, List, ◌++◌, length}
use Rattle.pawn_meaning.specs.Program.{Expr}
use Rattle.pawn_meaning.specs.Scope.{Scope}
use Rattle.pawn_meaning.specs.ValidExprs.{IsValidExpr}
use Rattle.gen_sim.specs.Items.{item_cells, waits_from}
use Rattle.gen_sim.specs.Contract.{Appended}
use Rattle.gen_laws.specs.ExprCode.{value_items}

-- what a generator of expressions promises of each one that is valid
abbrev pub CodeMeans : Type 0
CodeMeans =
    (scope : Scope) (e : Expr) → IsValidExpr scope e → (code : List ℤ) (waits : List (ℕ × ℕ))
    → Appended scope (length scope.program.natives) e code waits
    (code ++ item_cells (value_items scope (4 * length code) e))
    (waits ++ waits_from (length code) (value_items scope (4 * length code) e))

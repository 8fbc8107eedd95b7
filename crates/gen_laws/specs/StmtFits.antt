-- The code of each valid statement has no fault, and is within its lean weight.
use Rattle.std.specs.Prelude.{◌≡◌, ◌+◌, ◌≤◌, ◌⊎◌, ℕ, Bool, true, length}
use Rattle.pawn_meaning.specs.Program.{Stmt}
use Rattle.pawn_meaning.specs.ValidStmts.{IsValidStmt}
use Rattle.pawn_meaning.specs.Weight.{stmt_weight, folds}
use Rattle.gen_sim.specs.Items.{item_cells}
use Rattle.gen_laws.specs.Fine.{StartsAt}
use Rattle.gen_sim.specs.Here.{Exits, Here}
use Rattle.gen_laws.specs.StmtCode.{stmt_items}
use Rattle.gen_laws.specs.Well.{AreWell, TableAt}

-- an exit of the loop around
abbrev pub IsExit : Exits → ℕ → Type 0
IsExit exits at = (exits.looped ≡ true) × ((at ≡ exits.broke) ⊎ (at ≡ exits.continued))

-- it leads to its own starts, to its end and to its exits, and its switches to its own case tables;
-- it is within the lean weight with twenty cells to spare
abbrev pub StmtFits : Type 0
StmtFits =
    (here : Here) (s : Stmt) (in_list : Bool) → IsValidStmt here.scope here.exits.looped in_list s
    → (begin : ℕ)
    → AreWell (length here.scope.program.natives)
    (λ at. StartsAt begin (stmt_items here begin s) at ⊎ IsExit here.exits at)
    (TableAt begin (stmt_items here begin s)) (stmt_items here begin s)
    × (length (item_cells (stmt_items here begin s)) + 20 ≤ stmt_weight folds s)

-- The code of each valid statement does what the statement means, wherever it stands, in every file
-- of the program.
use Rattle.std.specs.Prelude.{ℕ, Bool}
use Rattle.pawn_meaning.specs.Program.{Stmt}
use Rattle.pawn_meaning.specs.ValidStmts.{all_slots_made, IsValidStmt}
use Rattle.gen_sim.specs.Here.{Here}
use Rattle.gen_sim.specs.Flow.{StmtCode}
use Rattle.gen_laws.specs.Fresh.{Fresh, Ready}
use Rattle.gen_laws.specs.StmtCode.{stmt_items}

-- what a generator of statements promises of each one that is valid
abbrev pub StmtMeans : Type 0
StmtMeans =
    (here : Here) (s : Stmt) (in_list : Bool) → IsValidStmt here.scope here.exits.looped in_list s
    → Ready here.scope.program here.scope.slots → Fresh here.scope (all_slots_made s) → (begin : ℕ)
    → StmtCode here s begin (stmt_items here begin s)

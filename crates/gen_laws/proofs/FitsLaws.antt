-- The code of a statement leads to itself, to its end and to its exits, and is within its weight.
use Rattle.std.proofs.Common.{◌+◌, ◌≤◌, ◌⊎◌, inl, inr, ℕ, Bool, length, refl}
use Rattle.pawn_meaning.specs.Program.{Stmt}
use Rattle.pawn_meaning.specs.ValidStmts.{IsValidStmt}
use Rattle.pawn_meaning.specs.Weight.{stmt_weight, folds}
use Rattle.gen_sim.specs.Items.{item_cells}
use Rattle.gen_laws.specs.Fine.{StartsAt}
use Rattle.gen_sim.specs.Here.{Here}
use Rattle.gen_laws.specs.StmtCode.{stmt_items}
use Rattle.gen_laws.specs.StmtFits.{IsExit}
use Rattle.gen_laws.specs.Well.{AreWell, TableAt}
use Rattle.gen_laws.proofs.StmtWeights.{stmt_light}
use Rattle.gen_laws.proofs.StmtWells.{stmt_well}

pub stmt_fits : (here : Here) (s : Stmt) (in_list : Bool)
    → IsValidStmt here.scope here.exits.looped in_list s → (begin : ℕ)
    → AreWell (length here.scope.program.natives)
    (λ at. StartsAt begin (stmt_items here begin s) at ⊎ IsExit here.exits at)
    (TableAt begin (stmt_items here begin s)) (stmt_items here begin s)
    × (length (item_cells (stmt_items here begin s)) + 20 ≤ stmt_weight folds s)
stmt_fits here s in_list h begin = (
  stmt_well (λ at. StartsAt begin (stmt_items here begin s) at ⊎ IsExit here.exits at)
      (TableAt begin (stmt_items here begin s)) s here in_list h
      (λ e. (inr (e, inl refl), inr (e, inr refl))) begin
      (record { starts = λ at z. inl z; tables = λ at z. z }),
  stmt_light s here begin,
)

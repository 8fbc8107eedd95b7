-- What was appended for an expression is all that its contract says.
use Rattle.std.proofs.Common.{◌*◌, ℕ, ℤ, List, ◌++◌, length, refl, arith}
use Rattle.pawn_meaning.specs.Program.{Expr}
use Rattle.pawn_meaning.specs.Scope.{Scope}
use Rattle.pawn_meaning.specs.ValidExprs.{IsValidExpr}
use Rattle.gen_sim.specs.Items.{item_cells, waits_from}
use Rattle.gen_sim.specs.Contract.{Appended}
use Rattle.gen_laws.specs.ExprCode.{value_items}
use Rattle.gen_laws.proofs.ExprNodes.{value_does}
use Rattle.gen_laws.specs.Fine.{StartsAt}
use Rattle.gen_laws.proofs.FineLaws.{are_written}
use Rattle.gen_laws.proofs.FaultLaws.{have_no_fault}
use Rattle.gen_laws.proofs.ExprForms.{value_closed}
use Rattle.gen_laws.proofs.WeightLaws.{value_light}

pub appended : (scope : Scope) (e : Expr) → IsValidExpr scope e
    → (code : List ℤ) (waits : List (ℕ × ℕ))
    → Appended scope (length scope.program.natives) e code waits
    (code ++ item_cells (value_items scope (4 * length code) e))
    (waits ++ waits_from (length code) (value_items scope (4 * length code) e))
appended scope e h code waits =
    let begin = 4 * length code in
    let items = value_items scope begin e in
    let natives = length scope.program.natives in
    record {
      items = items;
      cells_are = refl;
      waits_are = refl;
      whole = are_written natives (StartsAt begin items) items (value_closed scope e h begin);
      faultless = have_no_fault natives begin items (value_closed scope e h begin);
      light = omega (arith, value_light scope e begin);
      does = value_does scope e h begin;
    }

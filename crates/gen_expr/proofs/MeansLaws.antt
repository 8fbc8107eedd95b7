-- What the code of a valid expression is, of the code that was appended.
use Rattle.std.proofs.Common.{◌≡◌, ◌*◌, length, sym, subst}
use Rattle.pawn_meaning.specs.Program.{Expr}
use Rattle.pawn_meaning.specs.Scope.{Scope}
use Rattle.pawn_meaning.specs.ValidExprs.{IsValidExpr}
use Rattle.gen_sim.specs.Contract.{Appended}
use Rattle.gen_laws.specs.ExprCode.{value_items}
use Rattle.gen_laws.specs.CodeMeans.{CodeMeans}
use Rattle.gen_expr.specs.Built.{Built, with_items}

pub means_so : CodeMeans → (scope : Scope) (e : Expr) (b r : Built)
    → r ≡ with_items (value_items scope (4 * length b.code) e) b
    → IsValidExpr scope e → Appended scope
    (length scope.program.natives) e b.code b.waits r.code r.waits
means_so law scope e b r is valid =
    subst (λ (z : Built). Appended scope (length scope.program.natives) e b.code b.waits z.code
    z.waits) (sym is)
    (law scope e valid b.code b.waits)

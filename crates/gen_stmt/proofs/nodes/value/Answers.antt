use Rattle.std.proofs.Common.{◌*◌, length}
use Rattle.pawn_meaning.specs.View.{expr_view}
use Rattle.gen_laws.specs.ExprCode.{value_items}
use Rattle.gen_stmt.proofs.GrownLaws.{code_grown}
use Rattle.gen_stmt.specs.Keeps.{scope_in}
use Rattle.gen_stmt.proofs.nodes.value.Goals as goal

pub returns : goal.returns
returns c =
    code_grown c.args.b c.in_ok-code.code
    (value_items (scope_in c.args.place.now c.args.locals.now.made.items)
    (4 * length c.args.b.code.code) (expr_view c.args.e.now)) c.in_ok-code.ensures

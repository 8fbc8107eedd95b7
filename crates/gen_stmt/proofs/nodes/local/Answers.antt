use Rattle.std.proofs.Common.{◌*◌, length}
use Rattle.pawn_meaning.specs.View.{expr_view}
use Rattle.gen_sim.specs.PushCode.{value_push, pushed_by}
use Rattle.gen_laws.specs.ExprCode.{value_items}
use Rattle.gen_stmt.proofs.GrownLaws.{code_grown}
use Rattle.gen_stmt.specs.Keeps.{scope_in}
use Rattle.gen_stmt.proofs.nodes.local.Goals as goal

pub returns-clause-code : goal.returns-clause-code
returns-clause-code c =
    let scope = scope_in c.args.at.now.place c.args.locals.now.made.items in
    code_grown c.args.b c.in_ok-code.code
    (pushed_by (value_push scope (expr_view c.args.e.now))
    (value_items scope (4 * length c.args.b.code.code) (expr_view c.args.e.now)))
    c.in_ok-code.ensures

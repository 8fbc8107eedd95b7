use Rattle.std.proofs.Common.{◌*◌, length}
use Rattle.pawn_meaning.specs.View.{perhaps_view}
use Rattle.gen_sim.specs.StateCode.{switched_code}
use Rattle.gen_laws.specs.StmtCode.{condition_items}
use Rattle.gen_stmt.specs.Keeps.{scope_in}
use Rattle.gen_stmt.proofs.PlainLaws.{state_done}
use Rattle.gen_stmt.proofs.states.state.Goals as goal

pub returns : goal.returns
returns c =
    let scope = scope_in c.args.place.now c.args.locals.now.made.items in
    state_done c.args.b c.in_ok-tested.tested c.in_ok-code.code
    (condition_items scope (4 * length c.args.b.code.code) (perhaps_view c.args.c.now))
    (switched_code scope.program c.args.a c.args.state)
    c.in_ok-tested.ensures c.in_ok-code.ensures

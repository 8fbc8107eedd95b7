use Rattle.gen_expr.specs.Standing.{scope_of}
use Rattle.gen_stmt.proofs.KindLaws.{absent_done}
use Rattle.gen_stmt.proofs.conditions.perhaps_jump.Goals as goal

pub returns-in_ok-ready-in-None : goal.returns-in_ok-ready-in-None
returns-in_ok-ready-in-None c =
    rw c.in-None.is
    (absent_done (scope_of c.args.frame.now) c.args.b c.in_ok-ready-in-None.ready
    c.jump_out_where.result c.in_ok-ready-in-None.ensures c.jump_out_where.ensures)

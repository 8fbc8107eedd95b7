use Rattle.std.proofs.Common.{◌<◌, w32, FitsSigned, arith, rules}
use Rattle.std.proofs.lemmas.Grind.{common_steps}
use Rattle.std.proofs.lemmas.Int.{to_z-of_z}
use Rattle.gen_stmt.proofs.LeftLaws.{some_dropped}
use Rattle.gen_stmt.proofs.left.dropped.Goals as goal

pub returns : goal.returns
returns c =
    let f : FitsSigned w32 c.in_ok-bytes.bytes = search rules in
    let some : 0 < c.args.count = grind (arith, common_steps) in
    some_dropped c.args.b c.in_ok-done.done c.args.count c.args.cells c.in_ok-bytes.bytes some
    c.in_ok-bytes.ensures
    (rw (to_z-of_z w32 c.in_ok-bytes.bytes f) at c.in_ok-done.ensures)

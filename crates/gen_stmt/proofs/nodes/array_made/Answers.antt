use Rattle.std.proofs.Common.{w32, FitsSigned, rules}
use Rattle.std.proofs.lemmas.Int.{to_z-of_z}
use Rattle.gen_sim.specs.PlaceItems.{object_code}
use Rattle.gen_stmt.specs.Keeps.{scope_in}
use Rattle.gen_laws.specs.MadeCode.{array_cells}
use Rattle.gen_stmt.proofs.PlainLaws.{array_done}
use Rattle.gen_stmt.proofs.nodes.array_made.Goals as goal

pub returns : goal.returns
returns c =
    let scope = scope_in c.args.place.now c.args.locals.now.made.items in
    let f : FitsSigned w32 c.in_ok-bytes.bytes = search rules in
    let g : FitsSigned w32 c.in_ok-down.down = search rules in
    array_done c.args.code c.in_ok-taken.taken c.in_ok-from.from c.in_ok-filled.filled
    (object_code scope.program c.args.o) c.in_ok-own.own
    (array_cells scope c.args.s) c.in_ok-bytes.bytes c.in_ok-down.down c.in_ok-own.ensures
    (rw c.from.ensures at c.in_ok-bytes.ensures)
    c.in_ok-down.ensures
    (rw (to_z-of_z w32 c.in_ok-down.down g) at c.in_ok-taken.ensures) c.in_ok-from.ensures
    (rw (to_z-of_z w32 c.in_ok-bytes.bytes f) at c.in_ok-filled.ensures)

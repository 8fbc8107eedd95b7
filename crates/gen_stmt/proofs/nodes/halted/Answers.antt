use Rattle.std.proofs.Common.{◌*◌, length, w32, FitsSigned, rules}
use Rattle.std.proofs.lemmas.Int.{to_z-of_z}
use Rattle.pawn_cells.specs.Cells.{cell_of}
use Rattle.pawn_meaning.specs.View.{expr_view}
use Rattle.gen_laws.specs.ExprCode.{value_items}
use Rattle.gen_stmt.specs.Keeps.{scope_in}
use Rattle.gen_stmt.proofs.PlainLaws.{halt_done}
use Rattle.gen_stmt.proofs.nodes.halted.Goals as goal

pub returns : goal.returns
returns c =
    let f : FitsSigned w32 c.cast_signed.result = search rules in
    let g : FitsSigned w32 c.args.reason = c.ranges.reason in
    halt_done c.args.b c.in_ok-valued.valued c.in_ok-tagged.tagged c.in_ok-done.done
    (value_items (scope_in c.args.place.now c.args.locals.now.made.items)
    (4 * length c.args.b.code.code) (expr_view c.args.e.now))
    (cell_of c.args.tag) c.args.reason c.in_ok-valued.ensures
    (rw (to_z-of_z w32 c.cast_signed.result f, c.cast_signed.ensures) at c.in_ok-tagged.ensures)
    (rw (to_z-of_z w32 c.args.reason g) at c.in_ok-done.ensures)

use Rattle.std.proofs.Common.{◌-◌, map, ap, arith}
use Rattle.pawn_meaning.specs.View.{slot_view}
use Rattle.gen_stmt.specs.declared.locals.Mark.{Mark}
use Rattle.gen_stmt.proofs.LeftLaws.{since_dropped}
use Rattle.gen_stmt.proofs.StandLaws.{since_cells}
use Rattle.gen_stmt.proofs.left.dropped_since.Goals as goal

pub overflow_sub-now-2 : goal.overflow_sub-now-2
overflow_sub-now-2 c =
    omega (
      arith,
      ap (λ (m : Mark). m.cells) c.mark-now.ensures,
      c.requires.stands.keeps.cells,
      since_cells (map slot_view c.args.place.now.slots.now) c.args.mark
          c.args.locals.now.made.items c.requires.mark,
    )

pub returns : goal.returns
returns c =
    since_dropped (map slot_view c.args.place.now.slots.now) c.args.place.now.params
    c.args.locals.now c.args.mark c.args.b c.in_ok-done.done
    (c.mark-now.result.made - c.args.mark.made)
    (c.mark-now.result.cells - c.args.mark.cells) c.requires.stands.keeps c.requires.mark
    (ap (λ (m : Mark). m.made - c.args.mark.made) c.mark-now.ensures)
    (ap (λ (m : Mark). m.cells - c.args.mark.cells) c.mark-now.ensures)
    c.in_ok-done.ensures

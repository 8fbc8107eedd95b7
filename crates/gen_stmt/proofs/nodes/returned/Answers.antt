use Rattle.std.proofs.Common.{◌*◌, [], ◌∷◌, length, map, ap}
use Rattle.pawn_meaning.specs.View.{expr_view, slot_view}
use Rattle.amx_ops.specs.declared.op.Op.TheVariants as op
use Rattle.gen_sim.specs.SimpleCode.{alone}
use Rattle.gen_laws.specs.ExprCode.{value_items}
use Rattle.gen_sim.specs.FlowCode.{leave_code}
use Rattle.gen_stmt.specs.Keeps.{scope_in}
use Rattle.gen_stmt.specs.declared.locals.Mark.{Mark}
use Rattle.gen_stmt.proofs.LeftLaws.{all_dropped}
use Rattle.gen_stmt.proofs.PlainLaws.{two_more}
use Rattle.gen_stmt.proofs.nodes.returned.Goals as goal

pub returns : goal.returns
returns c =
    let slots = map slot_view c.args.place.now.slots.now in
    let made = c.args.locals.now.made.items in
    two_more c.args.b c.in_ok-valued.valued c.in_ok-left.left c.in_ok-done.done
    (value_items (scope_in c.args.place.now made) (4 * length c.args.b.code.code)
    (expr_view c.args.e.now)) (leave_code slots made) (alone op.Retn ∷ [])
    c.in_ok-valued.ensures
    (all_dropped slots c.args.place.now.params c.args.locals.now c.in_ok-valued.valued
    c.in_ok-left.left c.mark-all.result.made c.mark-all.result.cells
    c.requires.keeps (ap (λ (m : Mark). m.made) c.mark-all.ensures)
    (ap (λ (m : Mark). m.cells) c.mark-all.ensures) c.in_ok-left.ensures)
    c.in_ok-done.ensures

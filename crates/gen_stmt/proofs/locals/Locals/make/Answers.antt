use Rattle.std.proofs.Common.{refl, map, w32, FitsSigned, rules}
use Rattle.std.proofs.lemmas.Int.{to_z-of_z}
use Rattle.pawn_meaning.specs.View.{slot_view}
use Rattle.gen_stmt.proofs.MakeLaws.{made_keeps}
use Rattle.gen_stmt.proofs.locals.Locals.make.Goals as goal

pub returns-clause-keeps : goal.returns-clause-keeps
returns-clause-keeps c =
    let f : FitsSigned w32 c.in_ok-offset.offset = search rules in
    rw (to_z-of_z w32 c.in_ok-offset.offset f)
    (made_keeps (map slot_view c.args.place.now.slots.now) c.args.place.now.params c.args.self.now _
    c.args.s c.in_ok-own.own c.in_ok-cells.cells
    c.in_ok-offset.offset c.requires c.in_ok-is_free.ensures.free c.in_ok-is_free.ensures.local
    c.in_ok-own.ensures c.in_ok-cells.ensures
    c.in_ok-offset.ensures c.in_ok-push.ensures.items refl refl)

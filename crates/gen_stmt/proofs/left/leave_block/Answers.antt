use Rattle.std.proofs.Common.{map}
use Rattle.pawn_meaning.specs.View.{slot_view}
use Rattle.gen_stmt.proofs.StandLaws.{stands_more}
use Rattle.gen_stmt.proofs.left.leave_block.Goals as goal

pub returns-clause-stands : goal.returns-clause-stands
returns-clause-stands c =
    stands_more c.args.place.now c.args.locals.now c.leave.new.self c.requires.stands
    (c.leave.ensures.keeps (map slot_view c.args.place.now.slots.now) c.args.place.now.params
    c.requires.stands.keeps c.requires.mark.1)

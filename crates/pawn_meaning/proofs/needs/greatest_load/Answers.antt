use Rattle.std.proofs.Common.{arith}
use Rattle.std.proofs.lemmas.Grind.{common_steps}
use Rattle.pawn_meaning.proofs.NeedLaws.{bodies_load}
use Rattle.pawn_meaning.proofs.needs.greatest_load.Goals as goal

pub returns : goal.returns
returns c = rw (bodies_load c.args.bodies.now) (grind (arith, common_steps))

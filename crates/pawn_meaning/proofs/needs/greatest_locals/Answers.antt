use Rattle.std.proofs.Common.{arith}
use Rattle.std.proofs.lemmas.Grind.{common_steps}
use Rattle.pawn_meaning.proofs.NeedLaws.{bodies_locals}
use Rattle.pawn_meaning.proofs.needs.greatest_locals.Goals as goal

pub returns : goal.returns
returns c = rw (bodies_locals c.args.bodies.now) (grind (arith, common_steps))

use Rattle.std.proofs.Common.{arith}
use Rattle.std.proofs.lemmas.Grind.{common_steps}
use Rattle.pawn_meaning.proofs.StmtWeightLaws.{bodies_sum}
use Rattle.pawn_meaning.proofs.weights.bodies_weight.Goals as goal

pub returns : goal.returns
returns c = rw (bodies_sum c.args.lean c.args.bodies.now) (grind (arith, common_steps))

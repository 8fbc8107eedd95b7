use Rattle.std.proofs.Common.{arith}
use Rattle.std.proofs.lemmas.Grind.{common_steps}
use Rattle.pawn_meaning.proofs.StmtWeightLaws.{functions_sum}
use Rattle.pawn_meaning.proofs.weights.program_weight.Goals as goal

pub returns : goal.returns
returns c =
    rw (functions_sum c.args.lean c.args.program.now.functions) (grind (arith, common_steps))

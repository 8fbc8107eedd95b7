use Rattle.std.proofs.Common.{subst}
use Rattle.pawn_pre.proofs.ForCallers.{only_value}
use Rattle.pawn_pre.specs.Evaluation as spec
use Rattle.pawn_pre.specs.Expansion.{Tells}
use Rattle.pawn_pre.proofs.table.Table.number.Goals as goal

pub returns : goal.returns
returns c = λ value is.
    subst (λ v. Tells (spec.number v c.args.self.now c.args.control c.args.bytes.now)
    c.evaluated.result)
    (only_value value is) c.evaluated.ensures

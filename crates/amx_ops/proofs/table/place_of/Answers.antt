use Rattle.std.proofs.Common.{◌∙◌, arith}
use Rattle.amx_ops.proofs.PlaceLaws.{in_first, in_second, in_third, in_last}
use Rattle.amx_ops.proofs.table.place_of.Goals as goal

pub returns-in-0-to-37-clause-place : goal.returns-in-0-to-37-clause-place
returns-in-0-to-37-clause-place c =
    λ k row e h. c.saturating_sub.ensures ∙ in_first c.args.number k row e h (omega arith)

pub returns-in-38-to-123-clause-place : goal.returns-in-38-to-123-clause-place
returns-in-38-to-123-clause-place c =
    λ k row e h. in_second c.args.number k row e h (omega arith) (omega arith)

pub returns-in-124-to-134-clause-place : goal.returns-in-124-to-134-clause-place
returns-in-124-to-134-clause-place c =
    λ k row e h. in_third c.args.number k row e h (omega arith) (omega arith)

pub returns-in_default-clause-place : goal.returns-in_default-clause-place
returns-in_default-clause-place c = λ k row e h. in_last c.args.number k row e h (omega arith)

use Rattle.std.proofs.Common.{◌≡◌, take}
use Rattle.amx_text.proofs.OperationSteps.{names_in}
use Rattle.amx_text.proofs.instruction.names_in.Given as goal

abbrev pub invariant-loop-row : goal.invariant-loop-row
invariant-loop-row l = l.names ≡ take l.row-index (names_in l.rows)

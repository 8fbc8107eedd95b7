use Rattle.amx_block.specs.Copied.{IsRun}
use Rattle.amx_block.proofs.copy.copy_run.Given as goal

abbrev pub invariant-loop-i : goal.invariant-loop-i
invariant-loop-i l = IsRun l.from l.to l.i l.initial.cells.items l.cells.items

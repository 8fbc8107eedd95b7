use Rattle.std.proofs.Common.{◌-◌}
use Rattle.amx_block.specs.Copied.{IsRunFrom}
use Rattle.amx_block.proofs.copy.copy_run_down.Given as goal

abbrev pub invariant-loop-i : goal.invariant-loop-i
invariant-loop-i l =
    IsRunFrom (l.count - l.i) l.from l.to l.count l.initial.cells.items l.cells.items

use Rattle.std.proofs.Common.{◌*◌}
use Rattle.amx_block.specs.Loaded.{IsPut}
use Rattle.amx_block.proofs.load.put_cells.Given as goal

abbrev pub invariant-loop-place : goal.invariant-loop-place
invariant-loop-place l = IsPut l.bytes (4 * l.place) l.initial.cells.items l.cells.items

use Rattle.amx_block.specs.Loaded.{IsPut}
use Rattle.amx_block.proofs.load.put_bytes.Given as goal

abbrev pub invariant-loop-at : goal.invariant-loop-at
invariant-loop-at l = IsPut l.bytes l.at l.fn.cells.items l.cells.items

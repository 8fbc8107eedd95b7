use Rattle.std.proofs.Common.{◌≡◌, ◌++◌, drop}
use Rattle.amx_format.specs.Numbers.{cells_at}
use Rattle.amx_image.proofs.restore.put_cells.Given as goal

abbrev pub invariant-loop-index : goal.invariant-loop-index
invariant-loop-index l =
    l.row ≡ cells_at l.bytes l.place l.index ++ drop l.index l.initial.row

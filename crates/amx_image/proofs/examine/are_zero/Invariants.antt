use Rattle.std.proofs.Common.{◌≡◌, ◌+◌, ◌-◌, ◌*◌}
use Rattle.amx_format.specs.Numbers.{cells_at}
use Rattle.amx_image.specs.Faults.{are_zero}
use Rattle.amx_image.proofs.examine.are_zero.Given as goal

abbrev pub invariant-loop-index : goal.invariant-loop-index
invariant-loop-index l =
    are_zero (cells_at l.bytes l.place l.count)
    ≡ are_zero (cells_at l.bytes (l.place + 4 * l.index) (l.count - l.index))

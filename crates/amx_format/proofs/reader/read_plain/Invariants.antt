use Rattle.std.proofs.Common.{◌≡◌, ◌+◌, ◌-◌, ◌*◌, ◌++◌}
use Rattle.amx_format.specs.Numbers.{cells_at}
use Rattle.amx_format.proofs.reader.read_plain.Given as goal

abbrev pub invariant-loop-index : goal.invariant-loop-index
invariant-loop-index l =
    l.row ++ cells_at l.bytes (l.place + 4 * l.index) (l.count - l.index)
    ≡ cells_at l.bytes l.place l.count

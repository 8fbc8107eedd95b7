use Rattle.std.proofs.Common.{◌≡◌, ◌++◌, ℕ, List, take}
use Rattle.amx_compact.specs.Spelled.{ShortestAll}
use Rattle.amx_format.proofs.writer.put_compact.Given as goal

abbrev pub invariant-loop-cell : goal.invariant-loop-cell
invariant-loop-cell l =
    (bytes : List ℕ) × ShortestAll (take l.cell-index l.row) bytes
    × (l.out ≡ l.initial.out ++ bytes)

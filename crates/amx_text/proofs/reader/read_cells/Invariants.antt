use Rattle.std.proofs.Common.{◌≡◌, ◌++◌, ℤ, List, length}
use Rattle.amx_text.specs.Readers.{Run, operand_at}
use Rattle.amx_text.proofs.reader.read_cells.Given as goal

abbrev pub invariant-loop-cell : goal.invariant-loop-cell
invariant-loop-cell l =
    (xs : List ℤ) × ((l.cells ≡ l.initial.cells ++ xs) × Run operand_at xs l.text l.rest)

abbrev pub decreases-loop-cell : goal.decreases-loop-cell
decreases-loop-cell l = length l.rest

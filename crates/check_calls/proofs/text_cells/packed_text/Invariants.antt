use Rattle.check_calls.proofs.PackedTextLaws.{PackedSoFar}
use Rattle.check_calls.proofs.text_cells.packed_text.Given as goal

abbrev pub invariant-loop-i : goal.invariant-loop-i
invariant-loop-i l = PackedSoFar l.bytes l.i l.cells

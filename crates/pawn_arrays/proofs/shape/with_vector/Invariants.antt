use Rattle.pawn_arrays.proofs.LayoutLaws.{HasSoFar}
use Rattle.pawn_arrays.proofs.shape.with_vector.Given as goal

abbrev pub invariant-loop-index : goal.invariant-loop-index
invariant-loop-index l = HasSoFar l.count l.size l.fn.offsets l.index l.offsets

use Rattle.amx_compact.proofs.ReadLemmas.{SoFar}
use Rattle.amx_compact.proofs.read.read_cells.Given as goal

abbrev pub invariant-loop : goal.invariant-loop
invariant-loop l = SoFar l.bytes l.cells l.rest l.counter

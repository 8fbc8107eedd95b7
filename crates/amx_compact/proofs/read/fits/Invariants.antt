use Rattle.amx_compact.proofs.ReadLemmas.{Scanned}
use Rattle.amx_compact.proofs.read.fits.Given as goal

abbrev pub invariant-loop-index : goal.invariant-loop-index
invariant-loop-index l = Scanned l.bytes l.rest l.index

use Rattle.std.proofs.Common.{◌<◌, ℕ}
use Rattle.amx_format.specs.Records.{IsInside, name_place}
use Rattle.amx_format.proofs.check.are_inside.Given as goal

abbrev pub invariant-loop-index : goal.invariant-loop-index
invariant-loop-index l = (k : ℕ) → k < l.index → IsInside l.header (name_place l.bytes l.header k)

use Rattle.std.proofs.Common.{◌≡◌, length}
use Rattle.amx_text.specs.Readers.{number_on}
use Rattle.amx_text.proofs.reader.number_on.Given as goal

abbrev pub invariant-loop-byte : goal.invariant-loop-byte
invariant-loop-byte l = number_on l.number l.rest ≡ number_on l.start l.text

abbrev pub decreases-loop-byte : goal.decreases-loop-byte
decreases-loop-byte l = length l.rest

use Rattle.std.proofs.Common.{length}
use Rattle.amx_text.specs.Readers.{Run, character_at}
use Rattle.amx_text.proofs.reader.name_at.Given as goal

abbrev pub invariant-loop-byte : goal.invariant-loop-byte
invariant-loop-byte l = Run character_at l.name l.text l.rest

abbrev pub decreases-loop-byte : goal.decreases-loop-byte
decreases-loop-byte l = length l.rest

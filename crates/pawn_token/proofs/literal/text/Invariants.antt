use Rattle.std.proofs.Common.{length}
use Rattle.pawn_token.specs.Literal.{Spells}
use Rattle.pawn_token.proofs.literal.text.Given as goal

abbrev pub invariant-loop-byte : goal.invariant-loop-byte
invariant-loop-byte l = Spells l.control 34 l.bytes l.found l.at

abbrev pub decreases-loop-byte : goal.decreases-loop-byte
decreases-loop-byte l = length l.at

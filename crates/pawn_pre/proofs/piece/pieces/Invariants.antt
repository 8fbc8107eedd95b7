use Rattle.std.proofs.Common.{length, ◌≡◌, ◌++◌}
use Rattle.pawn_pre.specs.declared.quote.Quote.TheVariants.{Outside}
use Rattle.pawn_pre.specs.Piece.{pieces}
use Rattle.pawn_pre.proofs.piece.pieces.Given as goal

abbrev pub invariant-loop-rest : goal.invariant-loop-rest
invariant-loop-rest l =
    l.list ++ pieces l.control l.quote l.rest ≡ pieces l.fn.control Outside l.fn.bytes

abbrev pub decreases-loop-rest : goal.decreases-loop-rest
decreases-loop-rest l = length l.rest

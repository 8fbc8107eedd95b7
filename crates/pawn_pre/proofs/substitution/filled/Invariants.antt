use Rattle.std.proofs.Common.{◌≡◌, ◌≤◌, ◌++◌, drop, length}
use Rattle.pawn_pre.specs.Expansion.{up_to_long}
use Rattle.pawn_pre.specs.Substitution.{filled}
use Rattle.pawn_pre.proofs.substitution.filled.Given as goal

abbrev pub invariant-loop-piece : goal.invariant-loop-piece
invariant-loop-piece l = record {
  so_far : up_to_long (l.out ++ filled l.given (drop l.piece-index l.text)) ≡
      up_to_long (filled l.given l.text);
  short : length l.out ≤ 4096;
}

use Rattle.std.proofs.Common.{◌≡◌, Some}
use Rattle.pawn_outside.specs.Held.{Held}
use Rattle.pawn_outside.specs.OnlyRead.{OnlyRead}
use Rattle.pawn_pre.specs.ConditionMachine.{value_of}
use Rattle.pawn_pre.specs.Sound.{IsSoundStack}
use Rattle.pawn_pre.specs.Remaining.{remaining}
use Rattle.pawn_pre.specs.Outcome.{Outcome}
use Rattle.pawn_pre.specs.Walk.{WalkEnds}
use Rattle.pawn_pre.proofs.source.drive.Given as goal

abbrev pub invariant-loop-walk : goal.invariant-loop-walk
invariant-loop-walk g l = record {
  read : OnlyRead g.F.Files.held g.F.Files.faults g.F.Files.never_fails l.fn.files l.files ⊥;
  leads : (map : Held) → g.F.Files.held l.fn.files ≡ Some map → (o : Outcome) →
      WalkEnds value_of map l.walk o → WalkEnds value_of map l.fn.walk o;
  sound : IsSoundStack l.fn.walk → IsSoundStack l.walk;
}

abbrev pub decreases-loop-walk : goal.decreases-loop-walk
decreases-loop-walk g l = remaining l.walk

use Rattle.std.proofs.Common.{◌≡◌, drop}
use Rattle.pawn_tags.specs.Matching as matching
use Rattle.pawn_tags.proofs.table.matches.Given as goal

abbrev pub invariant-loop-tag : goal.invariant-loop-tag
invariant-loop-tag l =
    matching.matches l.table (drop l.tag-index l.formal) l.actual
    ≡ matching.matches l.table l.formal l.actual

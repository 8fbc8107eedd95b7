use Rattle.std.proofs.Common.{◌≡◌, map, take}
use Rattle.pawn_front.specs.Places.{warning_at}
use Rattle.pawn_front.proofs.files.warnings.Given as goal

abbrev pub invariant-loop-place : goal.invariant-loop-place
invariant-loop-place l = l.list ≡ map (warning_at l.files) (take l.place-index l.places)

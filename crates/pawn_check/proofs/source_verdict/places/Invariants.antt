use Rattle.std.proofs.Common.{◌≡◌, map, take}
use Rattle.pawn_tree.specs.declared.name.At.{At}
use Rattle.pawn_check.proofs.source_verdict.places.Given as goal

abbrev pub invariant-loop-at : goal.invariant-loop-at
invariant-loop-at l = l.list ≡ map (λ (at : At). at.place) (take l.at-index l.tokens)

use Rattle.std.proofs.Common.{◌≡◌, drop}
use Rattle.std.specs.List.{position_from}
use Rattle.pawn_states.specs.Classifier.{is_fallback}
use Rattle.check_declarations.proofs.routes.fallback_place.Given as goal

abbrev pub invariant-loop-i : goal.invariant-loop-i
invariant-loop-i l =
    position_from is_fallback l.i (drop l.i l.clauses) ≡ position_from is_fallback 0 l.clauses

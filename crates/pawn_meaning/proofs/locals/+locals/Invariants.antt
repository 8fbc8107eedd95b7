use Rattle.std.proofs.Common.{map}
use Rattle.pawn_meaning.specs.Need.{locals}
use Rattle.pawn_meaning.specs.View.{slot_view, stmt_view}
use Rattle.pawn_meaning.proofs.Walks.{IsGreatest}
use Rattle.pawn_meaning.proofs.locals.+locals.Given as goal

abbrev pub invariant-inner_locals-loop-i : goal.invariant-inner_locals-loop-i
invariant-inner_locals-loop-i l =
    IsGreatest (λ stmt. locals (map slot_view l.slots) (stmt_view stmt)) l.items l.i l.greatest

abbrev pub invariant-cases_locals-loop-i : goal.invariant-cases_locals-loop-i
invariant-cases_locals-loop-i l =
    IsGreatest (λ case. locals (map slot_view l.slots) (stmt_view case.stmt)) l.items l.i l.greatest

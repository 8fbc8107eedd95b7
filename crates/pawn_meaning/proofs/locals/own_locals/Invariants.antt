use Rattle.std.proofs.Common.{map}
use Rattle.pawn_meaning.specs.Need.{made_by}
use Rattle.pawn_meaning.specs.View.{slot_view, stmt_view}
use Rattle.pawn_meaning.proofs.Walks.{IsSum}
use Rattle.pawn_meaning.proofs.locals.own_locals.Given as goal

abbrev pub invariant-loop-i : goal.invariant-loop-i
invariant-loop-i l =
    IsSum (λ stmt. made_by (map slot_view l.slots) (stmt_view stmt)) l.items l.i l.sum

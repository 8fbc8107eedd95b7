use Rattle.std.proofs.Common.{map}
use Rattle.pawn_meaning.specs.Need.{locals}
use Rattle.pawn_meaning.specs.View.{slot_view, stmt_view}
use Rattle.pawn_meaning.proofs.Walks.{IsGreatest}
use Rattle.pawn_meaning.proofs.needs.greatest_locals.Given as goal

abbrev pub invariant-loop-i : goal.invariant-loop-i
invariant-loop-i l =
    IsGreatest (λ body. locals (map slot_view body.slots) (stmt_view body.stmt)) l.items l.i
    l.greatest

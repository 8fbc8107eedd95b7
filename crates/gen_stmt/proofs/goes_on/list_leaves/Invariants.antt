use Rattle.std.proofs.Common.{◌≡◌, drop}
use Rattle.pawn_meaning.specs.View.{stmts_view}
use Rattle.gen_laws.specs.GoesOn.{list_leaves}
use Rattle.gen_stmt.proofs.goes_on.list_leaves.Given as goal

abbrev pub invariant-loop-s : goal.invariant-loop-s
invariant-loop-s l =
    list_leaves (stmts_view (drop l.s-index l.list)) ≡ list_leaves (stmts_view l.list)

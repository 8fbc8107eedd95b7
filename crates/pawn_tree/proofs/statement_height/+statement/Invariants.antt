use Rattle.pawn_tree.specs.Height.{stmt_height, case_height}
use Rattle.pawn_tree.specs.View.{stmt_view, case_view}
use Rattle.pawn_tree.proofs.HeightLaws.{IsHighest}
use Rattle.pawn_tree.proofs.statement_height.+statement.Given as goal

abbrev pub invariant-stmts_height-loop-i : goal.invariant-stmts_height-loop-i
invariant-stmts_height-loop-i l = IsHighest stmt_height stmt_view l.items l.i l.height

abbrev pub invariant-cases_height-loop-i : goal.invariant-cases_height-loop-i
invariant-cases_height-loop-i l = IsHighest case_height case_view l.items l.i l.height

use Rattle.std.proofs.Common.{◌+◌, ◌*◌, max}
use Rattle.pawn_meaning.specs.declared.node.Expr.{size-Expr}
use Rattle.gen_stmt.proofs.conditions.+jump_where.Given as goal

-- ---- that it ends: an operand has a smaller depth than its condition

abbrev pub decreases-jump_where : goal.decreases-jump_where
decreases-jump_where l = 4 * goal.size-jump_where l

abbrev pub decreases-open : goal.decreases-open
decreases-open l = 4 * goal.size-open l + 1

abbrev pub decreases-jump_both : goal.decreases-jump_both
decreases-jump_both l = 4 * max (size-Expr l.x.now) (size-Expr l.y.now) + 2

abbrev pub decreases-jump_past : goal.decreases-jump_past
decreases-jump_past l = 4 * max (size-Expr l.x.now) (size-Expr l.y.now) + 2

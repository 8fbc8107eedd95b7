use Rattle.std.proofs.Common.{rules, arith, ◌≤◌}
use Rattle.pawn_meaning.specs.declared.program_limits.TheConstants as limit
use Rattle.check_declarations.specs.ObjectCells.{cells_of_all}
use Rattle.check_declarations.proofs.SumLaws.{counted_over}
use Rattle.check_declarations.proofs.sums.object_cells.Goals as goal

pub returns-in_err-sum : goal.returns-in_err-sum
returns-in_err-sum c =
    let over : cells_of_all c.args.objects.now ≤ limit.DATA_LIMIT → ⊥ =
    counted_over _ c.loop-i.invariant (omega arith) c.index-objects-i.is c.in_err-sum.ensures in
    search (rules, over)

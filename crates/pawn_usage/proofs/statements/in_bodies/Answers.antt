use Rattle.std.proofs.Common.{arith}
use Rattle.pawn_meaning.specs.View.{program_view}
use Rattle.pawn_usage.proofs.AddLaws.{so_far_goes_on, so_far_ends}
use Rattle.pawn_usage.proofs.NodeLaws.{of_bodies}
use Rattle.pawn_usage.proofs.statements.in_bodies.Goals as goal

pub loop-i-preserved : goal.loop-i-preserved
loop-i-preserved c =
    so_far_goes_on _ c.loop-i.invariant (omega arith) c.index-items-i.is c.in_ok-in_body.ensures

pub returns : goal.returns
returns c =
    rw (
      ← c.as_slice-items.ensures,
      ← of_bodies (program_view c.args.program.now) c.as_slice-items.result.now,
    )
    (so_far_ends c.loop-i.invariant (omega arith))

use Rattle.std.proofs.Common.{arith}
use Rattle.check_expressions.proofs.GoingOnLaws.{zeros_more}
use Rattle.check_expressions.proofs.filling.with_zeros.Goals as goal

pub loop-preserved : goal.loop-preserved
loop-preserved c =
    zeros_more c.loop.all c.push.new.self _ c.args.count c.loop.counter (omega arith)
    c.in_ok-push.ensures.ok c.loop.invariant

use Rattle.std.proofs.Common.{arith}
use Rattle.amx_format.proofs.WriteLaws.{zeros_step}
use Rattle.amx_format.proofs.writer.put_zeros.Goals as goal

pub loop-preserved : goal.loop-preserved
loop-preserved c =
    zeros_step c.loop.out c.push.new.self _ c.args.count c.loop.counter
    (omega arith) c.in_ok-push.ensures.ok c.loop.invariant

use Rattle.std.proofs.Common.{arith}
use Rattle.check_source.proofs.AddLaws.{so_far_ends, vars_names}
use Rattle.check_source.proofs.variable.in_vars.Goals as goal

pub returns : goal.returns
returns c =
    rw (← c.as_slice-items.ensures, ← vars_names c.as_slice-items.result.now)
    (so_far_ends c.loop-i.invariant (omega arith))

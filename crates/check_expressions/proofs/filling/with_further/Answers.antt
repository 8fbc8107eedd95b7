use Rattle.std.proofs.Common.{w32, FitsSigned, arith, rules}
use Rattle.std.proofs.lemmas.Int.{to_z-of_z}
use Rattle.check_expressions.proofs.GoingOnLaws.{further_more, further_ends}
use Rattle.check_expressions.proofs.filling.with_further.Goals as goal

pub loop-preserved : goal.loop-preserved
loop-preserved c =
    let fits : FitsSigned w32 c.add-value.result.0 = search rules in
    further_more c.loop.all c.push.new.self _ c.args.count c.loop.counter _ _ _ (omega arith)
    (rw (to_z-of_z w32 c.add-value.result.0 fits) c.add-value.ensures) c.in_ok-push.ensures.ok
    c.loop.invariant

pub returns : goal.returns
returns c =
    let last : FitsSigned w32 c.args.last = search rules in
    let step : FitsSigned w32 c.args.step = search rules in
    rw (to_z-of_z w32 c.args.last last, to_z-of_z w32 c.args.step step)
    at (further_ends c.loop.all _ c.args.count c.loop.counter _ _ (omega arith) c.loop.invariant)

use Rattle.std.proofs.Common.{w32, FitsSigned, rules}
use Rattle.std.proofs.lemmas.Int.{to_z-of_z}
use Rattle.amx_step.proofs.RunLaws.{goes, errs, halts, asks, none_left}
use Rattle.amx_step.proofs.runs.run.Goals as goal

pub returns-in-Errs : goal.returns-in-Errs
returns-in-Errs c =
    let fits : FitsSigned w32 c.in-Errs.code = search rules in
    rw (to_z-of_z w32 c.in-Errs.code fits)
    (errs c.args.count c.loop-done.done c.loop-done.machine c.step.new.machine _
    c.loop-done-test.true c.loop-done.invariant c.in-Errs.code c.in-Errs.ensures)

pub returns-in-Halts : goal.returns-in-Halts
returns-in-Halts c =
    let fits : FitsSigned w32 c.in-Halts.code = search rules in
    rw (to_z-of_z w32 c.in-Halts.code fits)
    (halts c.args.count c.loop-done.done c.loop-done.machine c.step.new.machine _
    c.loop-done-test.true c.loop-done.invariant c.in-Halts.code c.in-Halts.ensures)

pub returns-in-Asks : goal.returns-in-Asks
returns-in-Asks c =
    asks c.args.count c.loop-done.done c.loop-done.machine c.step.new.machine _
    c.loop-done-test.true c.loop-done.invariant c.in-Asks.native c.in-Asks.ensures

pub loop-done-preserved : goal.loop-done-preserved
loop-done-preserved c =
    goes c.args.count c.loop-done.done c.loop-done.machine c.step.new.machine _
    c.loop-done-test.true c.loop-done.invariant c.in-Goes.ensures

pub returns : goal.returns
returns c =
    none_left c.args.count c.loop-done.done c.loop-done.machine _ c.loop-done-test.false
    c.loop-done.auto.done-end c.loop-done.invariant

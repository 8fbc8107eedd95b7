use Rattle.host_plan.proofs.NextLaws.{taken}
use Rattle.host_plan.proofs.reading.take_line.Goals as goal

pub returns-in-Some : goal.returns-in-Some
returns-in-Some c =
    taken c.args.text.now c.in-Some.line c.args.plan.now c.take.new.self c.take.result
    (rw c.in-Some.is at c.in_ok-line.ensures) c.take.ensures

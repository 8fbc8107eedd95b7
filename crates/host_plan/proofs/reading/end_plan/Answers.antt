use Rattle.std.proofs.Common.{ap, length, true-eqb}
use Rattle.host_plan.proofs.BreakLaws.{breaks_empty, breaks_last}
use Rattle.host_plan.proofs.SideLaws.{some_bytes}
use Rattle.host_plan.proofs.reading.end_plan.Goals as goal

pub returns-then-is_empty-2 : goal.returns-then-is_empty-2
returns-then-is_empty-2 c =
    breaks_empty c.args.plan c.args.rest.now c.requires.draft
    (ap length (c.is_empty-then-is_empty.ensures.0 c.if-is_empty-2.true))
    (true-eqb (length c.args.rest.now) 0 c.if-is_empty.ensures)

pub returns : goal.returns
returns c =
    breaks_last c.args.plan c.take_line.new.plan c.args.rest.now c.in_ok-take_line.field-0
    c.count_lines.result c.requires.draft c.requires.last
    (some_bytes c.args.rest.now c.if-is_empty.ensures) c.in_ok-take_line.ensures
    c.count_lines.ensures

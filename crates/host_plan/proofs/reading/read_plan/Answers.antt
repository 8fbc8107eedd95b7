use Rattle.std.proofs.Common.{Ok, true, false, ap, subst, rules, arith, length}
use Rattle.host_plan.specs.Lines.{TakesText}
use Rattle.host_plan.proofs.BreakLaws.{few_lines, has_bad, has_more}
use Rattle.host_plan.proofs.reading.read_plan.Goals as goal

pub count_lines-requires : goal.count_lines-requires
count_lines-requires c =
    let few =
    few_lines c.args.text.now c.loop-line.rest.now c.in-Some.line.now c.loop-line.plan
    c.take_line.new.plan c.loop-line.invariant
    (rw c.if-not-branch.true at c.in_ok-take_line.ensures) in
    omega (arith, few)

pub overflow_add-result : goal.overflow_add-result
overflow_add-result c =
    let few =
    few_lines c.args.text.now c.loop-line.rest.now c.in-Some.line.now c.loop-line.plan
    c.take_line.new.plan c.loop-line.invariant
    (rw c.if-not-branch.true at c.in_ok-take_line.ensures) in
    omega (arith, few, c.count_lines.ensures)

pub returns-then-not-branch : goal.returns-then-not-branch
returns-then-not-branch c =
    has_bad c.args.text.now c.loop-line.rest.now c.in-Some.line.now c.in-Some.more.now
    c.loop-line.plan c.take_line.new.plan c.count_lines.result c.loop-line.invariant
    c.in-Some.ensures (rw c.if-not-branch.true at c.in_ok-take_line.ensures) c.count_lines.ensures

pub loop-line-preserved : goal.loop-line-preserved
loop-line-preserved c =
    has_more c.args.text.now c.loop-line.rest.now c.in-Some.line.now c.in-Some.more.now
    c.loop-line.plan c.take_line.new.plan c.loop-line.invariant c.in-Some.ensures
    (rw c.if-not-branch.false at c.in_ok-take_line.ensures)

use Rattle.std.proofs.Common.{ap, arith}
use Rattle.host_run.specs.Bound.{count_writes}
use Rattle.host_run.proofs.RoomLaws.{most_next}
use Rattle.host_run.proofs.bound.most_writes.Goals.{then-count-most, else-count-most}
use Rattle.host_run.proofs.bound.most_writes.Goals as goal

pub loop-answer-preserved : goal.loop-answer-preserved
loop-answer-preserved c =
    let l = c.loop-answer in
    let next = most_next c.args.answers.now l.answer-index c.answer-item.result c.loop-answer-test.true in
    let count = c.count_writes-count.ensures in
    let is = ap count_writes c.answer-item.is in
    elim c.if-count-most.branch [
      | then-count-most w ↦
          omega (arith, next, count, is, l.invariant, w.if-count-most, w.most-is)
      | else-count-most w ↦
          omega (arith, next, count, is, l.invariant, w.if-count-most, w.most-is)
    ]

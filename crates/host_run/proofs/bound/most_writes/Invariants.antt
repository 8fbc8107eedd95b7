use Rattle.std.proofs.Common.{◌≡◌, take}
use Rattle.host_run.specs.Bound.{most_writes}
use Rattle.host_run.proofs.bound.most_writes.Given as goal

abbrev pub invariant-loop-answer : goal.invariant-loop-answer
invariant-loop-answer l = l.most ≡ most_writes (take l.answer-index l.answers)

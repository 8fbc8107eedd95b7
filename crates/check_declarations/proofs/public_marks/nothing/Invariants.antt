use Rattle.std.proofs.Common.{◌≡◌, replicate, false}
use Rattle.check_declarations.proofs.public_marks.nothing.Given as goal

abbrev pub invariant-loop : goal.invariant-loop
invariant-loop l = l.flags.items ≡ replicate l.counter false

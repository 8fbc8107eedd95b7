use Rattle.std.proofs.Common.{◌-◌, length}
use Rattle.check_calls.proofs.NumberLaws.{AreFrom}
use Rattle.check_calls.proofs.numbers.numbers_of.Given as goal

abbrev pub invariant-loop-done : goal.invariant-loop-done
invariant-loop-done l = AreFrom l.params (length l.params - l.done) l.table.entries

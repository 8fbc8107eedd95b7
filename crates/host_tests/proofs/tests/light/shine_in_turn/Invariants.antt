use Rattle.std.proofs.Common.{◌≡◌, length}
use Rattle.host_tests.proofs.tests.light.shine_in_turn.Given as goal

abbrev pub invariant-loop-round : goal.invariant-loop-round
invariant-loop-round l = length l.host ≡ 2

use Rattle.std.proofs.Common.{◌≡◌, ◌++◌}
use Rattle.pawn_sample.specs.SampleSource.{call_line, lines_below}
use Rattle.pawn_sample.proofs.source.append_calls.Given as goal

abbrev pub invariant-loop-number : goal.invariant-loop-number
invariant-loop-number l = l.source ≡ l.initial.source ++ lines_below call_line l.number

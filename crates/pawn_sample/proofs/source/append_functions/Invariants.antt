use Rattle.std.proofs.Common.{◌≡◌, ◌++◌}
use Rattle.pawn_sample.specs.SampleSource.{function_line, lines_below}
use Rattle.pawn_sample.proofs.source.append_functions.Given as goal

abbrev pub invariant-loop-number : goal.invariant-loop-number
invariant-loop-number l = l.source ≡ l.initial.source ++ lines_below function_line l.number

use Rattle.std.proofs.Common.{drop}
use Rattle.commands.specs.Lines.{warning_lines}
use Rattle.pawn_outside.proofs.SoFarLaws.{SoFar}
use Rattle.commands.proofs.lines.say_warnings.Given as goal

abbrev pub invariant-loop-warning : goal.invariant-loop-warning
invariant-loop-warning g l =
    let sink = g.S.Sink in
    SoFar sink.taken sink.faults sink.has_room l.initial.out l.out
    (warning_lines (drop l.warning-index l.warnings)) (warning_lines l.warnings)

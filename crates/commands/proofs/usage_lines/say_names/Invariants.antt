use Rattle.std.proofs.Common.{drop}
use Rattle.std.specs.List.{flat_map}
use Rattle.commands.specs.UsageText.{name_text}
use Rattle.pawn_outside.proofs.SoFarLaws.{SoFar}
use Rattle.commands.proofs.usage_lines.say_names.Given as goal

abbrev pub invariant-loop-function : goal.invariant-loop-function
invariant-loop-function g l =
    let sink = g.S.Sink in
    SoFar sink.taken sink.faults sink.has_room l.initial.out l.out
    (flat_map (name_text l.names) (drop l.function-index l.chain))
    (flat_map (name_text l.names) l.chain)

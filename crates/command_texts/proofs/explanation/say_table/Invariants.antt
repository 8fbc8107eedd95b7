use Rattle.std.proofs.Common.{drop}
use Rattle.pawn_outside.proofs.SoFarLaws.{SoFar}
use Rattle.command_texts.specs.Rows.{rows_by}
use Rattle.command_texts.specs.Explained.{rows_text}
use Rattle.command_texts.proofs.explanation.say_table.Given as goal

abbrev pub invariant-loop-row : goal.invariant-loop-row
invariant-loop-row g l =
    let sink = g.S.Sink in
    SoFar sink.taken sink.faults sink.has_room l.initial.out l.out
    (rows_text l.asked (rows_by (drop l.row-index l.rows))) (rows_text l.asked (rows_by l.rows))

use Rattle.std.proofs.Common.{drop}
use Rattle.pawn_outside.proofs.SoFarLaws.{SoFar}
use Rattle.command_texts.specs.Rows.{rows_in}
use Rattle.command_texts.specs.Explained.{rows_text}
use Rattle.command_texts.proofs.explanation.say_tables.Given as goal

abbrev pub invariant-loop-table : goal.invariant-loop-table
invariant-loop-table g l =
    let sink = g.S.Sink in
    SoFar sink.taken sink.faults sink.has_room l.initial.out l.out
    (rows_text l.asked (rows_in (drop l.table-index l.tables)))
    (rows_text l.asked (rows_in l.tables))

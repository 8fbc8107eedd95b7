use Rattle.std.proofs.Common.{drop}
use Rattle.amx_text.specs.Listing.{record_lines}
use Rattle.pawn_outside.proofs.SoFarLaws.{SoFar}
use Rattle.amx_text.proofs.listing.say_records.Given as goal

abbrev pub invariant-loop-entry : goal.invariant-loop-entry
invariant-loop-entry g l =
    let sink = g.S.Sink in
    let text = record_lines l.kind in
    SoFar sink.taken sink.faults sink.has_room l.initial.out l.out
    (text (drop l.entry-index l.records)) (text l.records)

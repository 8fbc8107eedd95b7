use Rattle.std.proofs.Common.{◌-◌, ◌*◌, drop, length}
use Rattle.amx_text.specs.Listing.{data_from}
use Rattle.pawn_outside.proofs.SoFarLaws.{SoFar}
use Rattle.amx_text.proofs.listing.say_store.Given as goal

abbrev pub invariant-loop-place : goal.invariant-loop-place
invariant-loop-place g l =
    let sink = g.S.Sink in
    SoFar sink.taken sink.faults sink.has_room l.initial.out l.out
    (data_from (4 * l.place) 0 (drop l.place l.store)) (data_from 0 0 l.store)

abbrev pub decreases-loop-place : goal.decreases-loop-place
decreases-loop-place g l = length l.store - l.place

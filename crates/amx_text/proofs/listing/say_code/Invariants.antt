use Rattle.std.proofs.Common.{◌-◌, ◌*◌, drop, length}
use Rattle.amx_text.specs.Listing.{code_lines}
use Rattle.amx_text.proofs.ListingLaws.{code_from}
use Rattle.pawn_outside.proofs.SoFarLaws.{SoFar}
use Rattle.amx_text.proofs.listing.say_code.Given as goal

abbrev pub invariant-loop-place : goal.invariant-loop-place
invariant-loop-place g l =
    let sink = g.S.Sink in
    SoFar sink.taken sink.faults sink.has_room l.initial.out l.out
    (code_from l.code (4 * l.place) (drop l.place l.code)) (code_lines l.code)

abbrev pub decreases-loop-place : goal.decreases-loop-place
decreases-loop-place g l = length l.code - l.place

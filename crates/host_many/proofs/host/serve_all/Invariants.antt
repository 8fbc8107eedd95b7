use Rattle.std.proofs.Common.{◌≡◌, Ok, take}
use Rattle.pawn_outside.specs.Said.{Said}
use Rattle.host_many.specs.Serves.{served, served_text}
use Rattle.host_many.proofs.host.serve_all.Given as goal

abbrev pub invariant-loop-turn : goal.invariant-loop-turn
invariant-loop-turn g l = record {
  text : Said {S = g.row.S.Denot} g.S.Sink.taken g.S.Sink.faults g.S.Sink.has_room
      l.initial.out l.out (served_text l.initial.seats (take l.turn-index l.events)) (Ok tt);
  seats : l.seats ≡ (served l.initial.seats (take l.turn-index l.events)).guests;
}

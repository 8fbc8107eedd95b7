use Rattle.std.proofs.Common.{◌≡◌, ◌≤◌, ◌-◌, ◌*◌, ◌^◌, Ok}
use Rattle.pawn_outside.specs.Said.{Said}
use Rattle.host_run.specs.Going.{Going}
use Rattle.host_run.proofs.run.run_segments.Given as goal

abbrev pub invariant-loop : goal.invariant-loop
invariant-loop g l = record {
  going : Going l.script l.initial.machine l.steps l.sleeps (l.sleeps - l.counter) l.done
      (record { machine = l.machine; position = l.at })
      (λ text. Said {S = g.row.S.Denot} g.S.Sink.taken g.S.Sink.faults g.S.Sink.has_room
      l.initial.out l.out text (Ok tt));
  small : l.done ≤ l.counter * 2 ^ 64;
  bound : l.bound ≡ l.initial.bound;
}

use Rattle.std.proofs.Common.{◌≡◌, Ok, ◌-◌}
use Rattle.pawn_outside.specs.Said.{Said}
use Rattle.pawn_outside.specs.Taken.{joined}
use Rattle.host_run.specs.SoFar.{SoFar}
use Rattle.host_run.proofs.sessions.session_behind.Given as goal

abbrev pub invariant-loop-done : goal.invariant-loop-done
invariant-loop-done g l = record {
  so_far : SoFar (joined l.part.front.now) l.part.script.now (record { machine = l.initial.machine; position = l.initial.at }) l.steps
      l.done (record { machine = l.machine; position = l.at })
      (λ text. Said {S = g.row.S.Denot} g.S.Sink.taken g.S.Sink.faults g.S.Sink.has_room
      l.initial.out l.out text (Ok tt));
  bound : l.bound ≡ l.initial.bound;
}

abbrev pub decreases-loop-done : goal.decreases-loop-done
decreases-loop-done g l = l.steps - l.done

use Rattle.std.proofs.Common.{◌≡◌, ◌+◌, ℕ, length, take}
use Rattle.pawn_outside.specs.Taken.{with_more, joined}
use Rattle.pawn_outside.proofs.lines.say.Given as goal

abbrev pub invariant-loop-piece : goal.invariant-loop-piece
invariant-loop-piece g l =
    let before = joined (take l.piece-index l.pieces) in
    record {
      so_far : g.S.Sink.taken l.out ≡ with_more (g.S.Sink.taken l.initial.out) before;
      steady : g.S.Sink.faults l.out ≡ g.S.Sink.faults l.initial.out;
      room : (rest : ℕ) → g.S.Sink.has_room l.initial.out (length before + rest)
          → g.S.Sink.has_room l.out rest;
    }

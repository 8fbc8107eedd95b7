use Rattle.std.proofs.Common.{◌+◌, ◌∙◌, [], length, drop, subst, suc, refl, ap}
use Rattle.pawn_outside.specs.Rose.{risen}
use Rattle.pawn_outside.specs.Taken.{joined}
use Rattle.pawn_outside.proofs.TakenLaws.{wrote_within, joined_at, length-joined_at}
use Rattle.pawn_outside.proofs.lines.say.Goals as goal

pub returns-in-Failed : goal.returns-in-Failed
returns-in-Failed g c =
    let pieces = c.args.pieces.now in
    let i = c.loop-piece.piece-index in
    record {
      whole = tt;
      front =
          wrote_within _ _ _ _ _ _ _ c.loop-piece.invariant.so_far c.in-Failed.ensures.answer
          (joined_at pieces i _ c.loop-piece-test.true);
      steady = tt;
      cause = c.in-Failed.ensures.cause refl ∙ ap risen c.loop-piece.invariant.steady;
      unfailing = λ rest room.
          let more = length (joined (drop (suc i) pieces)) + rest in
          let e =
          length-joined_at pieces i (record { ref_ptr = (0, 0); now = [] }) rest
          c.loop-piece-test.true in
          let here =
          c.loop-piece.invariant.room _ (subst (g.S.Sink.has_room c.args.out.now) e room) in
          let taken = (c.in-Failed.ensures.unfailing more here).1 in
          absurd (cc taken);
    }

use Rattle.std.proofs.Common.{◌≡◌, [], drop, length, ap, arith}
use Rattle.std.proofs.lemmas.Grind.{common_steps}
use Rattle.pawn_pre.specs.Substitution.{filled}
use Rattle.pawn_pre.proofs.CutLaws.{front_more_at, front_full, front_whole, length-up_to_long}
use Rattle.pawn_pre.proofs.substitution.filled.Goals as goal

pub returns-then-is_long : goal.returns-then-is_long
returns-then-is_long c =
    let full : length c.loop-piece.out ≡ 4096 = grind arith in
    front_full _ _ _ c.loop-piece.invariant.so_far full

pub loop-piece-preserved : goal.loop-piece-preserved
loop-piece-preserved c = record {
  so_far =
      front_more_at _ _ _ _ _ _ _ c.loop-piece-test.true c.loop-piece.invariant.so_far
      c.in_ok-put_piece.ensures.put;
  short = rw c.in_ok-put_piece.ensures.put (length-up_to_long _);
}

pub returns : goal.returns
unfolding filled
returns c =
    let none : drop c.loop-piece.piece-index c.args.text.now ≡ [] = grind (arith, common_steps) in
    front_whole _ _ _ c.loop-piece.invariant.so_far c.loop-piece.invariant.short
    (ap (λ t. filled c.args.given.now t) none)

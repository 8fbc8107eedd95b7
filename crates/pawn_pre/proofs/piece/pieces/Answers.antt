use Rattle.std.proofs.Common.{sym, arith}
use Rattle.std.proofs.lemmas.Grind.{common_steps}
use Rattle.pawn_pre.proofs.PieceLaws.{pieces_param, pieces_byte}
use Rattle.pawn_pre.proofs.piece.pieces.Goals as goal

pub loop-rest-preserved-in-Some : goal.loop-rest-preserved-in-Some
loop-rest-preserved-in-Some c =
    let e = pieces_param c.args.control c.loop-rest.quote _ _ _ (sym c.in-Some.ensures.digit) in
    grind (arith, common_steps, e, c.split_at.ensures.back)

pub loop-rest-preserved : goal.loop-rest-preserved
loop-rest-preserved c =
    let e = pieces_byte c.args.control c.loop-rest.quote _ _ (sym c.in-None.ensures.digit) in
    grind (arith, common_steps, e)

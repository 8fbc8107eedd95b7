use Rattle.std.proofs.Common.{◌≢◌, length, sym, arith}
use Rattle.check_functions.proofs.SameLaws.{same_more, other_lengths}
use Rattle.check_functions.proofs.same_heads.same_params.Goals as goal

pub returns-then-x-y : goal.returns-then-x-y
returns-then-x-y c =
    let apart : length c.args.x.now ≢ length c.args.y.now = omega arith in
    other_lengths c.args.x.now c.args.y.now apart

pub loop-i-preserved : goal.loop-i-preserved
loop-i-preserved c =
    same_more c.args.x.now c.args.y.now c.loop-i.i c.index-x-i.result c.index-y-i.result
    c.loop-i.invariant (omega arith) (omega arith)
    c.index-x-i.is c.index-y-i.is (sym c.if-not-same_param.ensures)

use Rattle.std.proofs.Common.{◌<◌, ℤ, pos, length, get_or, w32, to_z, of_z, arith}
use Rattle.gen_stmt.proofs.WriteLaws.{same_at, next_range}
use Rattle.gen_stmt.proofs.write.write_ranges.Goals as goal

pub loop-i-preserved : goal.loop-i-preserved
loop-i-preserved c =
    let within : c.loop-i.i < length c.args.ranges.now = omega arith in
    let range : ℤ × ℤ = get_or c.args.ranges.now c.loop-i.i (pos 0, pos 0) in
    next_range c.args.ranges.now c.loop-i.i range
    (to_z w32 (of_z w32 c.args.to)) c.loop-i.cell c.write_range-next.result.1 _ c.args.b
    c.loop-i.written c.write_range-next.result.0 _ within
    (same_at c.args.ranges.now c.loop-i.i (pos 0, pos 0) range within)
    c.write_range-next.ensures.written c.write_range-next.ensures.end c.loop-i.invariant.0
    c.loop-i.invariant.1 c.loop-i.invariant.2

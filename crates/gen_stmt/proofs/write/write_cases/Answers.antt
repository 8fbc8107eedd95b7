use Rattle.std.proofs.Common.{◌<◌, ℤ, pos, length, get_or, w32, FitsSigned, arith}
use Rattle.std.proofs.Common.{rules}
use Rattle.std.proofs.lemmas.Int.{to_z-of_z}
use Rattle.gen_stmt.proofs.WriteLaws.{same_at, next_case}
use Rattle.gen_stmt.proofs.write.write_cases.Goals as goal

pub loop-i-preserved : goal.loop-i-preserved
loop-i-preserved c =
    let within : c.loop-i.i < length c.args.cases.now = omega arith in
    let among : c.loop-i.i < length c.args.to.now = omega (arith, c.requires.each) in
    let to : ℤ = get_or c.args.to.now c.loop-i.i (pos 0) in
    let f : FitsSigned w32 to = search rules in
    next_case c.args.cases.now c.args.to.now c.loop-i.i c.index-cases-i.result to c.loop-i.cell
    c.write_ranges-next.result.1 _ c.args.b
    c.loop-i.written c.write_ranges-next.result.0 _ within among c.index-cases-i.is
    (same_at c.args.to.now c.loop-i.i (pos 0) to among)
    (rw (to_z-of_z w32 to f, c.as_slice.ensures) at c.write_ranges-next.ensures.written)
    (rw c.as_slice.ensures at c.write_ranges-next.ensures.end)
    c.loop-i.invariant.0 c.loop-i.invariant.1 c.loop-i.invariant.2

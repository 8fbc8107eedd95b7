use Rattle.std.proofs.Common.{◌<◌, w32, to_z, of_z, FitsSigned, arith, rules}
use Rattle.std.proofs.lemmas.Grind.{common_steps}
use Rattle.std.proofs.lemmas.Int.{to_z-of_z}
use Rattle.pawn_meaning.specs.Weight.{values_in}
use Rattle.gen_stmt.proofs.WriteLaws.{next_written}
use Rattle.gen_stmt.proofs.write.write_values.Goals as goal

pub loop-i-preserved : goal.loop-i-preserved
loop-i-preserved c =
    let n = values_in (to_z w32 (of_z w32 c.args.least), to_z w32 (of_z w32 c.args.greatest)) in
    let within : c.loop-i.i < n = grind (arith, common_steps) in
    let f : FitsSigned w32 c.value_at-value.result = search rules in
    next_written (to_z w32 (of_z w32 c.args.least)) n c.loop-i.i
    (to_z w32 (of_z w32 c.args.to)) c.value_at-value.result c.args.at c.args.b
    c.loop-i.written c.write_pair-written.result _ within c.value_at-value.ensures
    (rw (to_z-of_z w32 c.value_at-value.result f) at c.write_pair-written.ensures)
    c.loop-i.invariant.0 c.loop-i.invariant.1

use Rattle.std.proofs.Common.{arith, rules}
use Rattle.std.specs.Prelude.{FitsSigned}
use Rattle.std.specs.Int.{w32}
use Rattle.std.proofs.lemmas.Grind.{common_steps}
use Rattle.amx_format.proofs.WriteLaws.{fits_more, fits_all}
use Rattle.amx_format.proofs.writer.put_table.Goals as goal

pub loop-record-preserved : goal.loop-record-preserved
loop-record-preserved c =
    let fits : FitsSigned w32 c.record-item.result.address = search rules in (
      grind (arith, common_steps),
      grind (arith, common_steps),
      fits_more _ _ _ (omega arith) c.record-item.is fits c.loop-record.invariant.2,
    )

pub returns-clause-fits : goal.returns-clause-fits
returns-clause-fits c = fits_all _ _ (omega arith) c.loop-record.invariant.2

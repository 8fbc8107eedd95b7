use Rattle.std.proofs.Common.{arith}
use Rattle.std.proofs.lemmas.Grind.{common_steps}
use Rattle.amx_format.proofs.RowLaws.{cells-append, cells_fit}
use Rattle.amx_format.proofs.writer.plain_row.Goals as goal

pub returns-clause-row : goal.returns-clause-row
returns-clause-row c =
    grind (arith, common_steps, cells-append c.args.amx.now.code c.args.amx.now.store)

pub returns-clause-fits : goal.returns-clause-fits
returns-clause-fits c =
    cells_fit c.args.amx.now.code c.args.amx.now.store c.as_slice.ensures.fits
    c.as_slice-2.ensures.fits

use Rattle.amx_format.proofs.RowLaws.{two_rows, cells_fit}
use Rattle.amx_format.proofs.writer.compact_row.Goals as goal

pub returns-clause-row : goal.returns-clause-row
returns-clause-row c =
    two_rows _ _ c.args.amx.now.code c.args.amx.now.store _ _ _ c.new-row.ensures
    c.as_slice.ensures.cells c.as_slice-2.ensures.cells
    c.in_ok-put_compact.ensures c.in_ok-put_compact-2.ensures

pub returns-clause-fits : goal.returns-clause-fits
returns-clause-fits c =
    cells_fit c.args.amx.now.code c.args.amx.now.store c.as_slice.ensures.fits
    c.as_slice-2.ensures.fits

use Rattle.std.proofs.Common.{arith, ap, subst, length-append, w32}
use Rattle.std.specs.Prelude.{FitsSigned}
use Rattle.amx_format.specs.declared.header.Header.{Header}
use Rattle.amx_format.proofs.RowLaws.{row_short}
use Rattle.amx_format.proofs.writer.write_layout.Goals as goal

pub header_for-header-requires-clause-row : goal.header_for-header-requires-clause-row
header_for-header-requires-clause-row c =
    omega (
      arith,
      c.len.ensures,
      row_short c.args.encoding _ c.in_ok-row.row
          c.in_ok-row.ensures.row,
      length-append c.args.amx.now.code c.args.amx.now.store,
    )

pub overflow_cast-len : goal.overflow_cast-len
overflow_cast-len c =
    record { fits = omega (arith, header_for-header-requires-clause-row c, c.requires.size) }

pub returns-clause-ranges : goal.returns-clause-ranges
returns-clause-ranges c = record {
  flags =
      omega (
        arith,
        c.put_header.ensures.flags,
        ap (λ (h : Header). h.flags) c.header_for-header.ensures,
      );
  entry =
      subst (FitsSigned w32) (ap (λ (h : Header). h.cip) c.header_for-header.ensures)
      c.put_header.ensures.entry;
  cells = c.in_ok-row.ensures.fits;
  addresses = c.in_ok-put_tables.ensures.fits;
}

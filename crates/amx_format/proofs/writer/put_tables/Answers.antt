use Rattle.std.proofs.Common.{ap, ◌∙◌, ◌++◌, ℕ, List}
use Rattle.amx_format.proofs.RowLaws.{five, five_tables, five_fit}
use Rattle.amx_format.proofs.writer.put_tables.Goals as goal

pub returns-clause-out : goal.returns-clause-out
returns-clause-out c =
    five _ _ _ _ _ _ _ _ _ _ _ c.in_ok-natives.ensures.out c.in_ok-libraries.ensures.out
    c.in_ok-variables.ensures.out c.in_ok-tags.ensures.out c.in_ok-put_table.ensures.out
    ∙ ap (λ (bytes : List ℕ). c.args.out.now ++ bytes)
    (five_tables c.args.amx.now c.args.first c.in_ok-natives.natives c.in_ok-libraries.libraries
    c.in_ok-variables.variables c.in_ok-tags.tags
    c.args.publics.now _ _ _ _ c.in_ok-natives.ensures.past c.in_ok-libraries.ensures.past
    c.in_ok-variables.ensures.past c.in_ok-tags.ensures.past
    c.as_slice.ensures c.as_slice-2.ensures c.as_slice-3.ensures c.as_slice-4.ensures)

pub returns-clause-fits : goal.returns-clause-fits
returns-clause-fits c =
    five_fit c.args.amx.now c.args.publics.now _ _ _ _ c.as_slice.ensures c.as_slice-2.ensures
    c.as_slice-3.ensures c.as_slice-4.ensures
    c.in_ok-natives.ensures.fits c.in_ok-libraries.ensures.fits c.in_ok-variables.ensures.fits
    c.in_ok-tags.ensures.fits c.in_ok-put_table.ensures.fits

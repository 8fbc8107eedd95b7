use Rattle.std.proofs.Common.{◌++◌, sym, subst, ◌∙◌}
use Rattle.amx_load.specs.Plain.{ArePlain}
use Rattle.amx_load.proofs.FileLaws.{row_plain}
use Rattle.amx_load.proofs.file.block_of_file.Goals as goal

pub plain_block-requires-clause-plain : goal.plain_block-requires-clause-plain
plain_block-requires-clause-plain c =
    let amx = c.args.amx.now in
    subst (ArePlain (amx.code ++ amx.store)) (sym c.row_of-row.ensures)
    (row_plain c.args.bytes.now amx c.requires.file
    (sym c.is_compact.ensures ∙ c.if-not-is_compact.true))

pub packed_block-requires-clause-fits : goal.packed_block-requires-clause-fits
packed_block-requires-clause-fits c = c.fits.ensures.0 c.if-fits.true

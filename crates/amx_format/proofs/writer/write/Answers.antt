use Rattle.amx_format.proofs.FileLaws.{written_by}
use Rattle.amx_format.proofs.writer.write.Goals as goal

pub returns : goal.returns
returns c =
    written_by c.args.encoding c.args.amx.now _ c.in_ok-publics.publics _ _ c.as_slice.ensures
    c.in_ok-publics.ensures c.as_slice-2.ensures c.requires
    c.write_layout.ensures.layout c.write_layout.ensures.ranges

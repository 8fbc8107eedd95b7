use Rattle.std.proofs.Common.{refl}
use Rattle.amx_block.proofs.LoadLaws.{byte_put}
use Rattle.amx_block.proofs.load.put_bytes.Goals as goal

pub loop-at-preserved : goal.loop-at-preserved
loop-at-preserved c =
    let l = c.loop-at in
    let e = c.put_byte.ensures in
    byte_put c.args.bytes.now c.args.cells.now.items l.cells.items c.put_byte.new.cells.items l.at
    _ _ e.value e.fits e.same refl e.others l.invariant

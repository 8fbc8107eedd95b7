use Rattle.std.proofs.Common.{◌/◌, w32, arith, replicate}
use Rattle.std.proofs.lemmas.Int.{to_z-of_z}
use Rattle.amx_block.proofs.BlockLaws.{put_in_memory}
use Rattle.amx_block.proofs.block.Block.fill.Goals as goal

pub returns : goal.returns
returns c =
    let f = c.self.inside in
    rw (c.fill_run.ensures, to_z-of_z w32 c.args.value c.ranges.value, ← c.self.view_is)
    (put_in_memory f.code (c.args.at / 4) c.args.count f.store f.cells.items
    (replicate c.args.count c.args.value) (omega (arith, c.self.invariant.within)))

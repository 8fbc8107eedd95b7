use Rattle.std.proofs.Common.{◌/◌, w32}
use Rattle.std.proofs.lemmas.Int.{to_z-of_z}
use Rattle.amx_block.proofs.BlockLaws.{set_in_memory}
use Rattle.amx_block.proofs.block.Block.set_cell.Goals as goal

pub returns : goal.returns
returns c =
    let f = c.self.inside in
    rw (to_z-of_z w32 c.args.value c.ranges.value, ← c.self.view_is)
    (set_in_memory f.code (c.args.at / 4) f.store f.cells.items c.args.value)

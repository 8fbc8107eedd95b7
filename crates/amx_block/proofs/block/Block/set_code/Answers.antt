use Rattle.std.proofs.Common.{◌/◌, w32, arith}
use Rattle.std.proofs.lemmas.Int.{to_z-of_z}
use Rattle.std.proofs.lemmas.List.{length-take}
use Rattle.amx_block.proofs.BlockLaws.{set_in_code}
use Rattle.amx_block.proofs.block.Block.set_code.Goals as goal

pub returns : goal.returns
returns c =
    let f = c.self.inside in
    let within = rw (← c.self.view_is) at c.requires.within in
    rw (to_z-of_z w32 c.args.value c.ranges.value, ← c.self.view_is)
    (set_in_code f.code (c.args.at / 4) f.store f.cells.items c.args.value
    (omega (arith, within, length-take f.code f.cells.items)))

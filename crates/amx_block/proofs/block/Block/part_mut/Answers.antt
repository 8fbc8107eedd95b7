use Rattle.std.proofs.Common.{◌/◌, refl, arith}
use Rattle.amx_block.proofs.BlockLaws.{given_back, part_of_memory}
use Rattle.amx_block.proofs.block.Block.part_mut.Goals as goal

pub returns : goal.returns
returns c =
    let f = c.self.inside in
    let i = c.args.at / 4 in (
      (
        refl,
        λ new. rw (← c.self.view_is)
            (given_back f.code i f.store f.cells.len f.cells.items new f.cells.ok.0
            (omega (arith, c.self.invariant.within))),
      ),
      record {
        writes_back = tt;
        value = rw (c.slice_mut.ensures.value, ← c.self.view_is)
            (part_of_memory f.code i c.args.count f.cells.items);
      },
    )

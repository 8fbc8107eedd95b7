use Rattle.amx_load.proofs.CellLaws.{store_put}
use Rattle.amx_load.proofs.cells.put_store.Goals as goal

pub returns : goal.returns
returns c =
    let v = c.loop-place.invariant in
    store_put c.args.block.now c.loop-place.block c.args.store.now c.loop-place.place
    c.loop-place-test.false c.loop-place.auto.place-end c.requires v.done v.others v.count
    v.code v.store

use Rattle.amx_load.proofs.CellLaws.{code_put}
use Rattle.amx_load.proofs.cells.put_code.Goals as goal

pub returns : goal.returns
returns c =
    let v = c.loop-place.invariant in
    code_put c.args.block.now c.loop-place.block c.args.code.now c.loop-place.place
    c.loop-place-test.false v.done v.count v.memory v.store

use Rattle.std.proofs.Common.{◌+◌, pos, length, replicate, sym, ap, ◌∙◌}
use Rattle.amx_block.specs.Contents.{Contents}
use Rattle.amx_load.proofs.CellLaws.{memory_loaded}
use Rattle.amx_load.proofs.cells.block_of.Goals as goal

pub returns-clause-memory : goal.returns-clause-memory
returns-clause-memory c =
    let memory = λ (b : Contents). b.memory in
    let store = c.as_slice-store.ensures.cells in
    memory_loaded c.args.amx.now.store c.as_slice-store.result.now c.args.amx.now.room
    c.in_ok-block.block c.put_code.new.block c.put_store.new.block store
    (ap memory c.in_ok-block.ensures
    ∙ sym (ap (λ s. replicate (length s + c.args.amx.now.room) (pos 0)) store))
    (ap memory c.put_code.ensures) (ap memory c.put_store.ensures)

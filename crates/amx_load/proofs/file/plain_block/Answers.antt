use Rattle.amx_load.proofs.HoldLaws.{plain_held}
use Rattle.amx_load.proofs.file.plain_block.Goals as goal

pub returns-clause-code : goal.returns-clause-code
returns-clause-code c =
    let amx = c.args.amx.now in
    (plain_held amx.code amx.store amx.room c.args.row.now c.in_ok-block.block
    c.load_bytes.new.self c.in_ok-block.ensures c.load_bytes.ensures c.requires.plain).0

pub returns-clause-memory : goal.returns-clause-memory
returns-clause-memory c =
    let amx = c.args.amx.now in
    (plain_held amx.code amx.store amx.room c.args.row.now c.in_ok-block.block
    c.load_bytes.new.self c.in_ok-block.ensures c.load_bytes.ensures c.requires.plain).1

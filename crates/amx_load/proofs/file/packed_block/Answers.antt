use Rattle.std.proofs.Common.{arith}
use Rattle.amx_load.proofs.HoldLaws.{short_row, room_for, packed_in, packed_held}
use Rattle.amx_load.proofs.file.packed_block.Goals as goal

pub load_bytes-requires : goal.load_bytes-requires
load_bytes-requires c =
    let amx = c.args.amx.now in
    let row = c.args.row.now in
    room_for amx.code amx.store amx.room _ c.in_ok-block.block c.in_ok-block.ensures
    (short_row amx.code amx.store row c.requires.spelled c.requires.fits)

pub overflow_cast-row : goal.overflow_cast-row
overflow_cast-row c =
    let amx = c.args.amx.now in
    let short =
    short_row amx.code amx.store c.args.row.now c.requires.spelled c.requires.fits in
    record { fits = omega (arith, short, c.requires.small) }

pub expand_from_end-requires : goal.expand_from_end-requires
expand_from_end-requires c =
    let amx = c.args.amx.now in
    (packed_in amx.code amx.store amx.room c.args.row.now c.in_ok-block.block
    c.load_bytes.new.self c.in_ok-block.ensures c.load_bytes.ensures c.requires.spelled
    c.requires.fits).packed

pub returns-clause-code : goal.returns-clause-code
returns-clause-code c =
    let amx = c.args.amx.now in
    (packed_held amx.code amx.store amx.room c.args.row.now c.in_ok-block.block
    c.load_bytes.new.self c.in_ok-block.ensures c.load_bytes.ensures c.requires.spelled
    c.requires.fits c.expand_from_end.new.self c.expand_from_end.ensures).0

pub returns-clause-memory : goal.returns-clause-memory
returns-clause-memory c =
    let amx = c.args.amx.now in
    (packed_held amx.code amx.store amx.room c.args.row.now c.in_ok-block.block
    c.load_bytes.new.self c.in_ok-block.ensures c.load_bytes.ensures c.requires.spelled
    c.requires.fits c.expand_from_end.new.self c.expand_from_end.ensures).1

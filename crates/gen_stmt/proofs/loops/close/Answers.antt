use Rattle.std.proofs.Common.{pos, w32, to_z, of_z}
use Rattle.gen_stmt.proofs.LedLaws.{led_in}
use Rattle.gen_stmt.proofs.loops.close.Goals as goal

pub lead_out-requires : goal.lead_out-requires
lead_out-requires c =
    led_in (to_z w32 (of_z w32 c.args.start)) (pos 0) c.as_slice.result.now c.args.holes.now
    c.args.told.code c.lead_out-back.result c.lead_out-back.ensures c.requires.exits

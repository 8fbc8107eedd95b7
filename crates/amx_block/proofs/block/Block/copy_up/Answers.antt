use Rattle.std.proofs.Common.{◌+◌, arith}
use Rattle.amx_block.proofs.CopyLaws.{up, byte_more}
use Rattle.amx_block.proofs.block.Block.copy_up.Goals as goal

pub loop-i-preserved : goal.loop-i-preserved
loop-i-preserved c =
    let v = c.loop-i.invariant in
    let w = c.write_byte.ensures in
    let i = c.loop-i.i in
    byte_more c.args.self.now c.loop-i.self c.write_byte.new.self c.args.from c.args.to
    (c.args.to + i) c.read_byte-byte.result 0 i 0 (i + 1) w.value w.fits (omega arith, omega arith)
    (omega arith, omega arith) (λ k l h ne. (omega (arith, l), omega (arith, h, ne))) v
    (up c.args.self.now.memory c.args.from c.args.to c.loop-i.self.memory
    c.write_byte.new.self.memory c.read_byte-byte.result i c.requires.below v.bytes
    c.read_byte-byte.ensures w.same w.others)

use Rattle.std.proofs.Common.{◌+◌, ◌-◌, arith}
use Rattle.amx_block.proofs.CopyLaws.{down_loop, byte_more}
use Rattle.amx_block.proofs.block.Block.copy_down.Goals as goal

pub loop-i-preserved : goal.loop-i-preserved
loop-i-preserved c =
    let v = c.loop-i.invariant in
    let w = c.write_byte.ensures in
    let i = c.loop-i.i in
    let n = c.args.count in
    let less = c.loop-i-test.true in
    byte_more c.args.self.now c.loop-i.self c.write_byte.new.self c.args.from c.args.to
    (c.args.to + (n - 1 - i)) c.read_byte-byte.result (n - i) n (n - (i + 1)) n w.value w.fits
    (omega (arith, less), omega (arith, less)) (omega arith, omega arith)
    (λ k l h ne. (omega (arith, l, ne, less), omega (arith, h))) v
    (down_loop c.args.self.now.memory c.args.from c.args.to c.loop-i.self.memory
    c.write_byte.new.self.memory c.read_byte-byte.result i n c.requires.above less v.bytes
    c.read_byte-byte.ensures w.same w.others)

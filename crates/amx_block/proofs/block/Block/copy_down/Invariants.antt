use Rattle.std.proofs.Common.{◌-◌}
use Rattle.amx_block.specs.Copied.{IsCopied}
use Rattle.amx_block.proofs.block.Block.copy_down.Given as goal

abbrev pub invariant-loop-i : goal.invariant-loop-i
invariant-loop-i l = IsCopied l.from l.to (l.count - l.i) l.count l.initial.self l.self

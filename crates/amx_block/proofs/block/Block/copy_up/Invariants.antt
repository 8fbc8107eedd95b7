use Rattle.amx_block.specs.Copied.{IsCopied}
use Rattle.amx_block.proofs.block.Block.copy_up.Given as goal

abbrev pub invariant-loop-i : goal.invariant-loop-i
invariant-loop-i l = IsCopied l.from l.to 0 l.i l.initial.self l.self

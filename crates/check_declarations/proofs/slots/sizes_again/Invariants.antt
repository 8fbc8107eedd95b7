use Rattle.std.proofs.Common.{◌≡◌, take}
use Rattle.check_declarations.proofs.slots.sizes_again.Given as goal

abbrev pub invariant-loop-size : goal.invariant-loop-size
invariant-loop-size l = l.all ≡ take l.size-index l.sizes

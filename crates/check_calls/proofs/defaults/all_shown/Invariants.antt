use Rattle.std.proofs.Common.{◌≡◌, take, map}
use Rattle.check_calls.specs.Shown.{shown_in}
use Rattle.check_calls.proofs.defaults.all_shown.Given as goal

abbrev pub invariant-loop-slot : goal.invariant-loop-slot
invariant-loop-slot l = l.all.items ≡ map shown_in (take l.slot-index l.slots)

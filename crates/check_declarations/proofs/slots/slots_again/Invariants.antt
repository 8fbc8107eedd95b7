use Rattle.std.proofs.Common.{◌≡◌, map, take}
use Rattle.pawn_meaning.specs.View.{slot_view}
use Rattle.check_declarations.proofs.slots.slots_again.Given as goal

abbrev pub invariant-loop-i : goal.invariant-loop-i
invariant-loop-i l = map slot_view l.all ≡ map slot_view (take l.i l.slots)

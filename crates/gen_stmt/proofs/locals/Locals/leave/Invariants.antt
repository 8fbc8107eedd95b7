use Rattle.std.proofs.Common.{◌≡◌, ℕ, List, length, take}
use Rattle.pawn_meaning.specs.Program.{Slot}
use Rattle.gen_stmt.specs.Keeps.{AreOffsets}
use Rattle.gen_stmt.proofs.locals.Locals.leave.Given as goal

abbrev pub invariant-loop-self : goal.invariant-loop-self
invariant-loop-self l =
    (take l.mark.made l.self.made.items ≡ take l.mark.made l.fn.self.made.items)
    × ((slots : List Slot) (params : ℕ)
    → AreOffsets slots params l.fn.self.made.items l.fn.self.offsets.items
    → AreOffsets slots params l.self.made.items l.self.offsets.items)

abbrev pub decreases-loop-self : goal.decreases-loop-self
decreases-loop-self l = length l.self.made.items

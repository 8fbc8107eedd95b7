use Rattle.std.proofs.Common.{sym, subst}
use Rattle.pawn_pre.specs.Sound.{IsSoundStack}
use Rattle.pawn_pre.proofs.BoundLaws.{next_sound}
use Rattle.pawn_pre.proofs.RemainingLaws.{next_falls}
use Rattle.pawn_pre.proofs.walk.Walk.end_file.Goals as goal

pub returns-in-Some-clause-bounds : goal.returns-in-Some-clause-bounds
returns-in-Some-clause-bounds c = λ k.
    next_sound _ c.in-Some.level c.pop_front.new.self.items c.in-Some.ensures.items
    (subst IsSoundStack (sym c.self.view_is) k)

pub returns-in-Some-clause-falls : goal.returns-in-Some-clause-falls
returns-in-Some-clause-falls c =
    rw (← c.self.view_is) (next_falls _ c.in-Some.level c.pop_front.new.self.items
    c.in-Some.ensures.items)

use Rattle.std.proofs.Common.{inr, refl}
use Rattle.commands.proofs.assembles.stop_at.Goals as goal

pub returns-in-Some : goal.returns-in-Some
returns-in-Some c = rw (← c.in-Some.ensures) c.refused.ensures

pub returns-in-None : goal.returns-in-None
returns-in-None c = inr refl

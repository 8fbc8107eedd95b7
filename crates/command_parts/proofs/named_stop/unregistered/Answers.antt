use Rattle.std.proofs.Common.{inl, inr, ap, refl}
use Rattle.command_parts.specs.declared.stop.Stop.TheVariants.{Unregistered}
use Rattle.command_parts.proofs.named_stop.unregistered.Goals as goal

pub returns-in-Ok : goal.returns-in-Ok
returns-in-Ok c = inl (ap Unregistered c.in-Ok.ensures)

pub returns-in-Err : goal.returns-in-Err
returns-in-Err c = inr refl

use Rattle.std.proofs.Common.{inl, inr, ap, refl}
use Rattle.command_parts.specs.declared.stop.Stop.TheVariants.{NoEntry}
use Rattle.command_parts.proofs.named_stop.no_entry.Goals as goal

pub returns-in-Ok : goal.returns-in-Ok
returns-in-Ok c = inl (ap NoEntry c.in-Ok.ensures)

pub returns-in-Err : goal.returns-in-Err
returns-in-Err c = inr refl

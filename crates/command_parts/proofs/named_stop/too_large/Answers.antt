use Rattle.std.proofs.Common.{◌∙◌, inl, inr, ap, refl}
use Rattle.command_parts.specs.declared.stop.Stop.TheVariants.{TooLarge}
use Rattle.command_parts.proofs.named_stop.too_large.Goals as goal

pub returns-in-Ok : goal.returns-in-Ok
returns-in-Ok c = inl (ap TooLarge (c.in-Ok.ensures ∙ c.as_bytes.ensures.value))

pub returns-in-Err : goal.returns-in-Err
returns-in-Err c = inr refl

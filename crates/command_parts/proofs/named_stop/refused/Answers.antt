use Rattle.std.proofs.Common.{◌∙◌, inl, inr, ap, refl}
use Rattle.command_parts.specs.declared.stop.Stop.TheVariants.{Refused}
use Rattle.command_parts.proofs.named_stop.refused.Goals as goal

pub returns-in-Ok : goal.returns-in-Ok
returns-in-Ok c =
    inl (ap (λ file. Refused c.args.kind file c.args.line)
    (c.in-Ok.ensures ∙ c.as_bytes.ensures.value))

pub returns-in-Err : goal.returns-in-Err
returns-in-Err c = inr refl

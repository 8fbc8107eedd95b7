use Rattle.std.proofs.Common.{ap, sym}
use Rattle.command_parts.specs.declared.status.Status.TheVariants as status
use Rattle.command_parts.specs.Told.{status_told}
use Rattle.host_many.specs.TurnsSo.{told_of}
use Rattle.host_many.specs.declared.served.Served.{Served}
use Rattle.command_many.proofs.ManyLaws.{tells_events}
use Rattle.command_many.proofs.plans.serve.Goals as goal

pub returns-in-Done : goal.returns-in-Done
returns-in-Done g c =
    tells_events c.serve_many.result _ c.as_slice.ensures c.serve_many.ensures.text
    (sym (ap (λ (s : Served). status_told status.Ok (told_of s)) c.in-Done.is))

pub returns : goal.returns
returns g c =
    tells_events c.serve_many.result _ c.as_slice.ensures c.serve_many.ensures.text
    (sym (ap (λ (s : Served). status_told status.Ok (told_of s)) c.in-SinkFault.is))

use Rattle.std.proofs.Common.{refl, ap}
use Rattle.pawn_outside.proofs.SaidLaws.{said_as, said_cut, said_then}
use Rattle.commands.specs.Lines.{warning_lines}
use Rattle.commands.specs.UsageText.{usage_text}
use Rattle.commands.proofs.usages.say_used.Goals as goal

pub returns-in-Ok : goal.returns-in-Ok
returns-in-Ok g c =
    said_then (said_as (ap warning_lines c.as_slice.ensures) c.in-Ok.ensures)
    (said_as (ap (λ names. usage_text names c.args.used.now.usage) c.as_slice-in-Ok.ensures)
    c.say_usage.ensures)

pub returns-in-Err : goal.returns-in-Err
returns-in-Err g c =
    said_cut (usage_text c.args.used.now.sourced.names c.args.used.now.usage) _ refl
    (said_as (ap warning_lines c.as_slice.ensures) c.in-Err.ensures)

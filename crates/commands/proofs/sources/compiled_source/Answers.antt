use Rattle.std.proofs.Common.{Err, ap}
use Rattle.pawn_outside.proofs.OnlyReadLaws.{read_as}
use Rattle.command_parts.proofs.ReadCallLaws.{only_other}
use Rattle.commands.proofs.SourceStopLaws.{source_stop, stop_fault}
use Rattle.commands.proofs.sources.compiled_source.Goals as goal

pub returns-in-Ok-clause-calls : goal.returns-in-Ok-clause-calls
returns-in-Ok-clause-calls g c = only_other (λ e. absurd (cc e)) c.in-Ok.ensures.files

pub returns-in-Err-clause-calls : goal.returns-in-Err-clause-calls
returns-in-Err-clause-calls g c =
    read_as (λ e. ap Err (stop_fault c.args.src.now c.in-Err.fault c.stop_of.result
    c.stop_of.ensures.stop (cc e)))
    (λ e. ap Err (c.stop_of.ensures.files (cc e))) c.in-Err.ensures.files

pub returns-in-Err-clause-answer : goal.returns-in-Err-clause-answer
returns-in-Err-clause-answer g c =
    source_stop _ c.args.src.now c.in-Err.fault c.stop_of.result c.in-Err.ensures.answer
    c.stop_of.ensures.stop

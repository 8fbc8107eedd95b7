use Rattle.std.proofs.Common.{Err, ap}
use Rattle.pawn_outside.proofs.OnlyReadLaws.{read_as}
use Rattle.commands.proofs.SourceStopLaws.{source_stop, stop_fault}
use Rattle.commands.proofs.UsageLaws.{measures_no_fault, uses}
use Rattle.commands.proofs.usages.used_source.Goals as goal

pub measure-requires : goal.measure-requires
measure-requires g c = c.in-Ok.ensures.answer.whole

pub returns-in-Ok-clause-calls : goal.returns-in-Ok-clause-calls
returns-in-Ok-clause-calls g c =
    read_as (λ e. absurd (measures_no_fault c.in-Ok.sourced c.measure.result c.measure.ensures e))
    (λ e. absurd (cc e)) c.in-Ok.ensures.files

pub returns-in-Ok-clause-answer : goal.returns-in-Ok-clause-answer
returns-in-Ok-clause-answer g c =
    uses _ c.args.src.now c.in-Ok.sourced c.measure.result c.in-Ok.ensures.answer
    c.measure.ensures

pub returns-in-Err-clause-calls : goal.returns-in-Err-clause-calls
returns-in-Err-clause-calls g c =
    read_as (λ e. ap Err (stop_fault c.args.src.now c.in-Err.fault c.stop_of.result
    c.stop_of.ensures.stop (cc e)))
    (λ e. ap Err (c.stop_of.ensures.files (cc e))) c.in-Err.ensures.files

pub returns-in-Err-clause-answer : goal.returns-in-Err-clause-answer
returns-in-Err-clause-answer g c =
    source_stop _ c.args.src.now c.in-Err.fault c.stop_of.result c.in-Err.ensures.answer
    c.stop_of.ensures.stop

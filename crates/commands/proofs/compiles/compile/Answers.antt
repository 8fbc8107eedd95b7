use Rattle.std.proofs.Common.{refl}
use Rattle.command_parts.proofs.FaultCountLaws.{only_calls, calls_then, calls_stopped}
use Rattle.command_parts.proofs.ToldLaws.{told_stop, unchanged}
use Rattle.commands.proofs.PutLaws.{compiles_nothing, compiles_good, puts_lent}
use Rattle.commands.proofs.compiles.compile.Goals as goal

pub returns-in-Ok-clause-answer : goal.returns-in-Ok-clause-answer
returns-in-Ok-clause-answer g c =
    compiles_good c.args.words.now _ _ _ c.encoding_of.result c.in-Ok.it c.put_file.result
    c.as_str.ensures c.encoding_of.ensures c.in-Ok.ensures.answer
    (puts_lent c.in-Ok.it.bytes _ c.in-Ok.it.warnings _ _ _ _ _ _ c.args.words.now.amx
    c.put_file.result c.as_slice.ensures c.as_slice-warnings.ensures c.as_str-in-Ok.ensures
    c.in-Ok.ensures.calls.same (unchanged c.args.out.now (only_calls c.in-Ok.ensures.calls))
    c.put_file.ensures.answer)

pub returns-in-Ok-clause-calls : goal.returns-in-Ok-clause-calls
returns-in-Ok-clause-calls g c =
    calls_then (only_calls c.in-Ok.ensures.calls) c.put_file.ensures.calls

pub returns-in-Err-clause-answer : goal.returns-in-Err-clause-answer
returns-in-Err-clause-answer g c =
    compiles_nothing c.args.words.now _ _ _ c.in-Err.cause c.tell_stop.result c.as_str.ensures
    c.in-Err.ensures.answer c.in-Err.ensures.calls.same
    (told_stop (only_calls c.in-Err.ensures.calls) refl c.tell_stop.ensures)

pub returns-in-Err-clause-calls : goal.returns-in-Err-clause-calls
returns-in-Err-clause-calls g c =
    calls_stopped c.in-Err.cause c.tell_stop.result
    (only_calls c.in-Err.ensures.calls) refl c.tell_stop.ensures

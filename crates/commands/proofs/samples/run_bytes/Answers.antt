use Rattle.command_parts.proofs.FaultCountLaws.{stop_no_fault}
use Rattle.command_parts.proofs.ValidLaws.{bytes_no_fault}
use Rattle.commands.proofs.SampleLaws.{sample_no_fault, sample_read, sample_unread}
use Rattle.commands.proofs.samples.run_bytes.Goals as goal

pub run_plain-requires : goal.run_plain-requires
run_plain-requires g c = record { bytes = c.in-Ok.ensures.file }

pub returns-in-Ok-clause-answer : goal.returns-in-Ok-clause-answer
returns-in-Ok-clause-answer g c =
    sample_read c.args.bytes.now c.in-Ok.file c.run_plain.result c.in-Ok.ensures
    c.run_plain.ensures

pub returns-in-Ok-clause-fault : goal.returns-in-Ok-clause-fault
returns-in-Ok-clause-fault g c =
    sample_no_fault c.in-Ok.file c.run_plain.result c.run_plain.ensures

pub returns-in-Err-clause-answer : goal.returns-in-Err-clause-answer
returns-in-Err-clause-answer g c =
    sample_unread c.args.bytes.now c.in-Err.stop c.tell_stop.result c.in-Err.ensures
    c.tell_stop.ensures

pub returns-in-Err-clause-fault : goal.returns-in-Err-clause-fault
returns-in-Err-clause-fault g c =
    stop_no_fault c.in-Err.stop c.tell_stop.result
    (bytes_no_fault c.in-Err.ensures) c.tell_stop.ensures

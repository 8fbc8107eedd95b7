use Rattle.command_parts.proofs.FaultCountLaws.{stop_no_fault}
use Rattle.command_parts.proofs.ValidLaws.{bytes_no_fault}
use Rattle.commands.proofs.GoFileLaws.{reads_none, reads_same, run_no_fault}
use Rattle.commands.proofs.goes.run_bytes.Goals as goal

pub run_file-requires-clause-bytes : goal.run_file-requires-clause-bytes
run_file-requires-clause-bytes g c = c.in-Ok.ensures.file

pub returns-in-Ok-clause-answer : goal.returns-in-Ok-clause-answer
returns-in-Ok-clause-answer g c =
    reads_same c.args.prepared.now.compiled.bytes c.as_slice-bytes.result.now c.args.prepared.now.script
    c.args.words.now c.in-Ok.file
    c.run_file.result c.as_slice-bytes.ensures c.in-Ok.ensures c.run_file.ensures

pub returns-in-Ok-clause-fault : goal.returns-in-Ok-clause-fault
returns-in-Ok-clause-fault g c =
    run_no_fault c.in-Ok.file _ _ c.run_file.result c.run_file.ensures

pub returns-in-Err-clause-answer : goal.returns-in-Err-clause-answer
returns-in-Err-clause-answer g c =
    reads_none c.args.prepared.now.compiled.bytes c.as_slice-bytes.result.now c.args.prepared.now.script
    c.args.words.now c.in-Err.stop
    c.tell_stop.result c.as_slice-bytes.ensures c.in-Err.ensures c.tell_stop.ensures

pub returns-in-Err-clause-fault : goal.returns-in-Err-clause-fault
returns-in-Err-clause-fault g c =
    stop_no_fault c.in-Err.stop c.tell_stop.result
    (bytes_no_fault c.in-Err.ensures) c.tell_stop.ensures

use Rattle.command_parts.proofs.ReadLaws.{fault_found}
use Rattle.command_parts.proofs.script.script_of.Goals as goal

pub returns-in-Err-clause-answer : goal.returns-in-Err-clause-answer
returns-in-Err-clause-answer c =
    fault_found c.args.bytes.now c.in-Err.fault c.stop_at.result c.in-Err.ensures.reads
    c.stop_at.ensures

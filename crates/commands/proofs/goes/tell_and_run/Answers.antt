use Rattle.commands.proofs.GoFileLaws.{runs_behind, runs_cut}
use Rattle.commands.proofs.goes.tell_and_run.Goals as goal

pub returns-in-Ok-clause-answer : goal.returns-in-Ok-clause-answer
returns-in-Ok-clause-answer g c = λ amx valid.
    runs_behind c.args.prepared.now.compiled.warnings c.as_slice.result.now c.as_slice.ensures
    c.args.prepared.now.script c.args.words.now amx c.run_bytes.result c.in-Ok.ensures
    (c.run_bytes.ensures.answer amx valid)

pub returns-in-Err-clause-answer : goal.returns-in-Err-clause-answer
returns-in-Err-clause-answer g c = λ amx valid.
    runs_cut c.args.prepared.now.compiled.warnings c.as_slice.result.now c.as_slice.ensures
    c.args.prepared.now.script c.args.words.now amx _ c.in-Err.ensures

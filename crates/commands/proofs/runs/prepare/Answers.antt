use Rattle.std.proofs.lemmas.Result.{err_from_is_err_and}
use Rattle.commands.specs.Served.{no_memory}
use Rattle.amx_format.proofs.LimitLaws.{within_limits}
use Rattle.commands.proofs.runs.prepare.Goals as goal

pub returns-in_err-machine : goal.returns-in_err-machine
returns-in_err-machine c =
    let p = err_from_is_err_and c.from_residual.result c.from_residual.ensures.1 in
    rw (p.1, p.2) no_memory

pub ready_at-requires-clause-limits : goal.ready_at-requires-clause-limits
ready_at-requires-clause-limits c =
    rw c.in_ok-machine.ensures (within_limits c.args.bytes c.args.program.file c.requires.file)

pub returns : goal.returns
returns c = rw c.in_ok-machine.ensures at c.ready_at.ensures

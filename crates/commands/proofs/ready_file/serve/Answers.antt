use Rattle.std.proofs.lemmas.Result.{err_from_is_err_and}
use Rattle.commands.specs.Served.{no_memory}
use Rattle.amx_format.proofs.LimitLaws.{within_limits}
use Rattle.commands.proofs.ready_file.serve.Goals as goal

pub bind_natives-requires-clause-natives : goal.bind_natives-requires-clause-natives
bind_natives-requires-clause-natives c =
    (within_limits c.args.bytes.now c.args.file c.requires.bytes).natives

pub returns-in_err-bound : goal.returns-in_err-bound
returns-in_err-bound c =
    let p = err_from_is_err_and c.from_residual.result c.from_residual.ensures.1 in
    rw (p.1, p.2) c.in_err-bound.ensures

pub returns-in_err-machine : goal.returns-in_err-machine
returns-in_err-machine c =
    let p =
    err_from_is_err_and c.from_residual-in_err-machine.result
    c.from_residual-in_err-machine.ensures.1 in
    rw (p.1, p.2) no_memory

pub returns : goal.returns
returns c = record {
  served = c.in_ok-bound.ensures.0;
  bound = c.in_ok-bound.ensures.1;
  machine = c.in_ok-machine.ensures;
}

use Rattle.std.proofs.Common.{inl, inr, sym, subst}
use Rattle.std.proofs.lemmas.Result.{err_from_is_err_and}
use Rattle.amx_format.specs.Limits.{IsWithinLimits}
use Rattle.amx_format.proofs.LimitLaws.{within_limits}
use Rattle.commands.specs.Resumes.{wants_memory}
use Rattle.commands.proofs.ResumeLaws.{has_all, image_of, none_of, restored_is, unserved}
use Rattle.commands.proofs.wake.wake.Goals as goal

pub returns-in_err-machine : goal.returns-in_err-machine
returns-in_err-machine c =
    let p = err_from_is_err_and c.from_residual.result c.from_residual.ensures.1 in
    rw (p.1, p.2) (inl wants_memory)

pub returns-in_err-at : goal.returns-in_err-at
returns-in_err-at c =
    let p =
    err_from_is_err_and c.from_residual-in_err-at.result
    c.from_residual-in_err-at.ensures.1 in
    rw (p.1, p.2)
    (none_of c.args.program c.in_ok-machine.ensures c.in_err-at.ensures.0
    c.in_err-at.ensures.1)

pub ready_at-requires-clause-limits : goal.ready_at-requires-clause-limits
ready_at-requires-clause-limits c =
    let restored =
    restored_is c.args.program.file c.args.program.digest c.args.image.now
    c.in_ok-machine.machine c.restore_into.new.machine c.in_ok-at.at
    c.in_ok-machine.ensures c.in_ok-at.ensures.0 c.in_ok-at.ensures.1 in
    subst IsWithinLimits (sym restored.file)
    (within_limits c.args.bytes c.args.program.file c.requires.file)

pub returns-in_err-ready : goal.returns-in_err-ready
returns-in_err-ready c =
    let restored =
    restored_is c.args.program.file c.args.program.digest c.args.image.now
    c.in_ok-machine.machine c.restore_into.new.machine c.in_ok-at.at
    c.in_ok-machine.ensures c.in_ok-at.ensures.0 c.in_ok-at.ensures.1 in
    let p =
    err_from_is_err_and c.from_residual-in_err-ready.result
    c.from_residual-in_err-ready.ensures.1 in
    rw (p.1, p.2) (inr (record {
      state = c.restore_into.new.machine.state;
      position = c.in_ok-at.at;
      image = image_of c.args.program c.in_ok-machine.ensures c.in_ok-at.ensures.0;
      unserved =
          unserved c.args.program c.restore_into.new.machine restored.file c.in_err-ready.ensures;
    }))

pub returns : goal.returns
returns c =
    let restored =
    restored_is c.args.program.file c.args.program.digest c.args.image.now
    c.in_ok-machine.machine c.restore_into.new.machine c.in_ok-at.at
    c.in_ok-machine.ensures c.in_ok-at.ensures.0 c.in_ok-at.ensures.1 in
    record {
      machine = c.restore_into.new.machine;
      position = c.in_ok-at.at;
      image = image_of c.args.program c.in_ok-machine.ensures c.in_ok-at.ensures.0;
      restored = restored;
      has = has_all c.args.program c.restore_into.new.machine restored.file c.in_ok-ready.ensures;
    }

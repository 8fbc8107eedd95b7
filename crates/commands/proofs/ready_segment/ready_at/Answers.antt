use Rattle.std.proofs.Common.{refl, ap, arith}
use Rattle.std.proofs.lemmas.Result.{err_from_is_err_and}
use Rattle.amx_image.specs.Buffer.{Buffer}
use Rattle.commands.specs.Served.{no_memory}
use Rattle.commands.proofs.ready_segment.ready_at.Goals as goal

pub bind_natives-requires-clause-natives : goal.bind_natives-requires-clause-natives
bind_natives-requires-clause-natives c = rw c.verified.ensures c.requires.limits.natives

pub returns-in_err-bound : goal.returns-in_err-bound
returns-in_err-bound c =
    let p = err_from_is_err_and c.from_residual.result c.from_residual.ensures.1 in
    rw (p.1, p.2) (rw c.verified.ensures at c.in_err-bound.ensures)

pub returns-in_err-buffer : goal.returns-in_err-buffer
returns-in_err-buffer c =
    let p =
    err_from_is_err_and c.from_residual-in_err-buffer.result
    c.from_residual-in_err-buffer.ensures.1 in
    rw (p.1, p.2) no_memory

pub returns : goal.returns
returns c =
    let room = ap (λ (b : Buffer). b.room) c.in_ok-buffer.ensures in
    let are = rw c.verified.ensures at c.in_ok-bound.ensures in
    record {
      machine = refl;
      digest = refl;
      script = refl;
      bound = are.1;
      position_is = refl;
      room = omega (arith, room);
      served = are.0;
    }

use Rattle.std.proofs.Common.{All, arith}
use Rattle.pawn_cells.specs.Cells.{IsCell}
use Rattle.amx_ops.specs.Keeps.{IsRunnable}
use Rattle.amx_ops.proofs.KeepsLaws.{keeps_states}
use Rattle.commands.proofs.runs.runnable.Goals as goal

pub returns-clause-can : goal.returns-clause-can
returns-clause-can c =
    let amx = c.args.file.now in
    let memory = c.amx-amx.ensures.memory in
    let code : All IsCell amx.code = rw c.amx-amx.ensures.value at c.as_slice-code.ensures.fits in
    let store : All IsCell amx.store =
    rw c.amx-amx.ensures.value at c.as_slice-store.ensures.fits in
    let runs : IsRunnable amx = record {
      code = code;
      store = store;
      size = omega (arith, memory);
      valid = c.amx-amx.ensures.valid;
    } in
    record { runnable = runs; first = keeps_states.loads amx amx.room runs (omega (arith, memory)) }

use Rattle.std.proofs.Common.{subst}
use Rattle.gen_module.specs.Few.{AreFew}
use Rattle.gen_module.proofs.FileLaws.{file_agrees, file_lean}
use Rattle.gen_module.proofs.files.file.Goals as goal

pub returns-clause-agrees : goal.returns-clause-agrees
returns-clause-agrees c = λ valid limits names.
    let program = c.args.program.now in
    let few : AreFew program.automata =
    subst (λ l. AreFew l) c.as_slice.ensures c.in_ok-states_fit.ensures in
    file_agrees program _ c.programs_have_files.ensures few c.in_ok-amx.ensures valid limits names

pub returns-clause-lean : goal.returns-clause-lean
returns-clause-lean c = file_lean c.args.program.now _ c.in_ok-amx.ensures

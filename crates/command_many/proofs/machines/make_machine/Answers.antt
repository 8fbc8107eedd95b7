use Rattle.std.proofs.Common.{refl}
use Rattle.amx_format.proofs.LimitLaws.{within_limits}
use Rattle.command_parts.proofs.ReadCallLaws.{handed, only_handed, only_other, only_then}
use Rattle.command_many.specs.Machines.{AddsOf, no_file}
use Rattle.command_many.proofs.MachineLaws.{adds_of, program_no_fault, script_missing, script_there}
use Rattle.command_many.proofs.machines.make_machine.Goals as goal

pub returns-in_err-file-clause-calls : goal.returns-in_err-file-clause-calls
returns-in_err-file-clause-calls g c =
    only_handed c.from_residual.result c.from_residual.ensures.1 refl c.in_err-file.ensures.calls

pub returns-in_err-file-clause-answer : goal.returns-in_err-file-clause-answer
returns-in_err-file-clause-answer g c =
    handed (λ result. AddsOf (g.F.Files.held c.args.files.now) c.args.machine.now c.args.host.now
    result c.args.host.now) c.from_residual.result
    c.from_residual.ensures.1
    (no_file (rw (c.text_of.ensures, c.as_slice.ensures) at c.in_err-file.ensures.answer))

pub returns-in_err-script-clause-calls : goal.returns-in_err-script-clause-calls
returns-in_err-script-clause-calls g c =
    only_then c.in_ok-file.ensures.calls
    (only_handed c.from_residual-in_err-script.result c.from_residual-in_err-script.ensures.1 refl
    c.in_err-script.ensures.calls)

pub returns-in_err-script-clause-answer : goal.returns-in_err-script-clause-answer
returns-in_err-script-clause-answer g c =
    handed (λ result. AddsOf (g.F.Files.held c.args.files.now) c.args.machine.now c.args.host.now
    result c.args.host.now) c.from_residual-in_err-script.result
    c.from_residual-in_err-script.ensures.1
    (script_missing c.in_ok-file.ensures.calls.same
    (rw (c.text_of.ensures, c.as_slice.ensures) at c.in_ok-file.ensures.answer)
    (rw (c.text_of-2.ensures, c.as_slice-2.ensures) at c.in_err-script.ensures.answer))

pub add_machine-requires-clause-natives : goal.add_machine-requires-clause-natives
add_machine-requires-clause-natives g c =
    (within_limits _ c.in_ok-file.file c.in_ok-file.ensures.answer.is.file).natives

pub add_machine-requires-clause-publics : goal.add_machine-requires-clause-publics
add_machine-requires-clause-publics g c =
    (within_limits _ c.in_ok-file.file c.in_ok-file.ensures.answer.is.file).publics

pub returns-clause-calls : goal.returns-clause-calls
returns-clause-calls g c =
    only_then c.in_ok-file.ensures.calls
    (only_other (program_no_fault c.in_ok-file.file c.in_ok-script.script c.args.host.now
    c.add_machine.new.host c.add_machine.result c.add_machine.ensures)
    c.in_ok-script.ensures.calls)

pub returns-clause-answer : goal.returns-clause-answer
returns-clause-answer g c =
    adds_of c.in_ok-script.script c.args.host.now c.add_machine.new.host c.add_machine.result
    (rw (c.text_of.ensures, c.as_slice.ensures) at c.in_ok-file.ensures.answer)
    (script_there c.in_ok-script.script c.in_ok-file.ensures.calls.same
    (rw (c.text_of-2.ensures, c.as_slice-2.ensures) at c.in_ok-script.ensures.answer))
    c.add_machine.ensures

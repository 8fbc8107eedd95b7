use Rattle.std.proofs.Common.{inl, refl}
use Rattle.command_parts.specs.ScriptFile.{IsScriptFileRead}
use Rattle.command_parts.proofs.ReadCallLaws.{handed, only_handed, only_other}
use Rattle.command_parts.proofs.ReadLaws.{script_named, script_no_fault}
use Rattle.command_parts.proofs.script.read_script_file.Goals as goal

pub returns-in_err-bytes-clause-calls : goal.returns-in_err-bytes-clause-calls
returns-in_err-bytes-clause-calls g c =
    only_handed c.from_residual.result c.from_residual.ensures.1 refl c.in_err-bytes.ensures.calls

pub returns-in_err-bytes-clause-answer : goal.returns-in_err-bytes-clause-answer
returns-in_err-bytes-clause-answer g c =
    handed (IsScriptFileRead (g.F.Files.held c.args.files.now) c.args.name.now)
    c.from_residual.result c.from_residual.ensures.1 (inl c.in_err-bytes.ensures.answer)

pub returns-clause-calls : goal.returns-clause-calls
returns-clause-calls g c =
    only_other (script_no_fault c.as_slice.result.now c.script_of.result c.script_of.ensures.answer)
    c.in_ok-bytes.ensures.calls

pub returns-clause-answer : goal.returns-clause-answer
returns-clause-answer g c =
    script_named _ c.args.name.now c.script_of.result c.in_ok-bytes.ensures.answer
    c.as_slice.ensures c.script_of.ensures.answer

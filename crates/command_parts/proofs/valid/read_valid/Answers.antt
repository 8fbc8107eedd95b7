use Rattle.std.proofs.Common.{inl, refl}
use Rattle.command_parts.specs.ValidFile.{IsValidRead}
use Rattle.command_parts.proofs.ReadCallLaws.{handed, only_handed, only_other}
use Rattle.command_parts.proofs.ValidLaws.{named_by, file_no_fault}
use Rattle.command_parts.proofs.valid.read_valid.Goals as goal

pub returns-in_err-bytes-clause-calls : goal.returns-in_err-bytes-clause-calls
returns-in_err-bytes-clause-calls g c =
    only_handed c.from_residual.result c.from_residual.ensures.1 refl c.in_err-bytes.ensures.calls

pub returns-in_err-bytes-clause-answer : goal.returns-in_err-bytes-clause-answer
returns-in_err-bytes-clause-answer g c =
    handed (IsValidRead (g.F.Files.held c.args.files.now) c.args.name.now)
    c.from_residual.result c.from_residual.ensures.1 (inl c.in_err-bytes.ensures.answer)

pub returns-clause-calls : goal.returns-clause-calls
returns-clause-calls g c =
    only_other (file_no_fault c.as_slice.result.now c.valid_file.result c.valid_file.ensures)
    c.in_ok-bytes.ensures.calls

pub returns-clause-answer : goal.returns-clause-answer
returns-clause-answer g c =
    named_by _ c.args.name.now c.valid_file.result c.in_ok-bytes.ensures.answer c.as_slice.ensures
    c.valid_file.ensures

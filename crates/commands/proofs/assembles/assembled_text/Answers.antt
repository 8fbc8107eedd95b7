use Rattle.std.proofs.Common.{inl, refl}
use Rattle.commands.specs.Assembles.{IsTextRead}
use Rattle.command_parts.proofs.ReadCallLaws.{handed, only_handed, only_other}
use Rattle.commands.proofs.AssembleLaws.{text_named, text_no_fault}
use Rattle.commands.proofs.assembles.assembled_text.Goals as goal

pub file_of-requires : goal.file_of-requires
file_of-requires g c = rw c.as_slice.ensures c.in_ok-text.ensures.answer.1

pub returns-in_err-text-clause-calls : goal.returns-in_err-text-clause-calls
returns-in_err-text-clause-calls g c =
    only_handed c.from_residual.result c.from_residual.ensures.1 refl c.in_err-text.ensures.calls

pub returns-in_err-text-clause-answer : goal.returns-in_err-text-clause-answer
returns-in_err-text-clause-answer g c =
    handed (IsTextRead (g.F.Files.held c.args.files.now) c.args.name.now c.args.encoding)
    c.from_residual.result c.from_residual.ensures.1 (inl c.in_err-text.ensures.answer)

pub returns-clause-calls : goal.returns-clause-calls
returns-clause-calls g c =
    only_other (text_no_fault c.args.name.now c.args.encoding c.as_slice.result.now
    c.file_of.result c.file_of.ensures) c.in_ok-text.ensures.calls

pub returns-clause-answer : goal.returns-clause-answer
returns-clause-answer g c =
    text_named _ c.args.name.now c.args.encoding c.file_of.result c.in_ok-text.ensures.answer
    c.as_slice.ensures c.file_of.ensures

use Rattle.std.proofs.Common.{◌∙◌, ap, arith, length}
use Rattle.amx_text.proofs.FoundLaws.{refused}
use Rattle.amx_text.proofs.draft.Draft.verify_file.Goals as goal

pub returns-in-Ok : goal.returns-in-Ok
returns-in-Ok c =
    (c.in-Ok.ensures.verdict, c.into_amx.ensures ∙ c.in-Ok.ensures.kept)

pub tell_fault-requires : goal.tell_fault-requires
tell_fault-requires c = omega (arith, c.requires.small, ap length c.as_slice.ensures)

pub returns : goal.returns
returns c =
    refused c.args.self c.in-Err.fault c.tell_fault.result c.as_slice.result.now c.as_slice.ensures
    c.in-Err.ensures.verdict c.tell_fault.ensures

use Rattle.command_parts.proofs.ValidLaws.{no_file_is, not_valid_is, valid_is}
use Rattle.command_parts.proofs.valid.valid_file.Goals as goal

pub returns-in-Err : goal.returns-in-Err
returns-in-Err c =
    no_file_is c.args.bytes.now c.in-Err.fault c.unread.result c.in-Err.ensures.answer
    c.unread.ensures

pub returns-in-Ok-verify : goal.returns-in-Ok-verify
returns-in-Ok-verify c =
    valid_is c.args.bytes.now c.in-Ok.amx c.in-Ok-verify.verified c.in-Ok.ensures.answer
    c.in-Ok-verify.ensures.verdict c.in-Ok-verify.ensures.kept

pub returns-in-Err-verify : goal.returns-in-Err-verify
returns-in-Err-verify c =
    not_valid_is c.args.bytes.now c.in-Ok.amx c.in-Err-verify.fault c.invalid.result
    c.in-Ok.ensures.answer c.in-Err-verify.ensures.verdict
    c.invalid.ensures

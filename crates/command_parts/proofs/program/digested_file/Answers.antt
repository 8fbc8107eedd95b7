use Rattle.command_parts.proofs.program.digested_file.Goals as goal

pub digest_of-requires : goal.digest_of-requires
digest_of-requires c = (c.in-Ok.file, c.in-Ok.ensures.file)

pub returns-in-Ok : goal.returns-in-Ok
returns-in-Ok c = record { valid = c.in-Ok.ensures; digest_is = c.digest_of.ensures }

pub returns-in-Err : goal.returns-in-Err
returns-in-Err c = c.in-Err.ensures

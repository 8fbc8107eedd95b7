use Rattle.std.proofs.lemmas.Result.{err_from_is_err_and}
use Rattle.command_parts.specs.Command.{resume_with}
use Rattle.command_parts.proofs.command_words.read_resume.Goals as goal

pub returns-in_err-words : goal.returns-in_err-words
returns-in_err-words c =
    let p = err_from_is_err_and c.from_residual.result c.from_residual.ensures.1 in
    rw (p.1, p.2) (c.in_err-words.ensures resume_with)

pub returns : goal.returns
returns c = rw (c.in_ok-words.ensures resume_with) c.resume_with.ensures

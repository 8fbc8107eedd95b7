use Rattle.std.proofs.lemmas.Result.{err_from_is_err_and}
use Rattle.command_parts.specs.declared.command.Command.TheVariants.{Sizes}
use Rattle.command_parts.proofs.asked_words.read_sizes.Goals as goal

pub returns-in_err-amx : goal.returns-in_err-amx
returns-in_err-amx c =
    let p = err_from_is_err_and c.from_residual.result c.from_residual.ensures.1 in
    rw (p.1, p.2) (c.in_err-amx.ensures Sizes)

pub returns : goal.returns
returns c = c.in_ok-amx.ensures Sizes

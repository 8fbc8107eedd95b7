use Rattle.std.proofs.lemmas.Result.{err_from_is_err_and}
use Rattle.command_parts.specs.declared.command.Command.TheVariants.{Usage}
use Rattle.command_parts.proofs.measure_words.read_usage.Goals as goal

pub returns-in_err-src : goal.returns-in_err-src
returns-in_err-src c =
    let p = err_from_is_err_and c.from_residual.result c.from_residual.ensures.1 in
    rw (p.1, p.2) (c.in_err-src.ensures Usage)

pub returns : goal.returns
returns c = c.in_ok-src.ensures Usage

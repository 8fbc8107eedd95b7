use Rattle.std.proofs.Common.{refl}
use Rattle.std.proofs.lemmas.Result.{err_from_is_err_and}
use Rattle.command_parts.proofs.WordLaws.{none_then}
use Rattle.command_parts.proofs.command_words.read_two_names.Goals as goal

pub returns-in_err-first-clause-bad : goal.returns-in_err-first-clause-bad
returns-in_err-first-clause-bad c =
    let p = err_from_is_err_and c.from_residual.result c.from_residual.ensures.1 in
    rw (p.1, p.2) (λ command. none_then _ _ _ c.in_err-first.ensures.bad)

pub returns-in_err-second-clause-bad : goal.returns-in_err-second-clause-bad
returns-in_err-second-clause-bad c =
    let p =
    err_from_is_err_and c.from_residual-in_err-second.result
    c.from_residual-in_err-second.ensures.1 in
    rw (p.1, p.2) (λ command.
    rw c.in_ok-first.ensures.plain (none_then _ _ _ c.in_err-second.ensures.bad))

pub returns-clause-plain : goal.returns-clause-plain
returns-clause-plain c = λ command.
    rw (c.in_ok-first.ensures.plain, c.in_ok-second.ensures.plain) refl

use Rattle.std.proofs.lemmas.Result.{err_from_is_err_and}
use Rattle.std.specs.String.{string_bytes}
use Rattle.command_parts.proofs.WordLaws.{none_then, alone_is, alone_no}
use Rattle.command_parts.proofs.command_words.read_only_name.Goals as goal

pub returns-in_err-name : goal.returns-in_err-name
returns-in_err-name c =
    let p = err_from_is_err_and c.from_residual.result c.from_residual.ensures.1 in
    rw (p.1, p.2) (λ command. none_then _ _ _ c.in_err-name.ensures.bad)

pub returns-then-is_empty : goal.returns-then-is_empty
returns-then-is_empty c = λ command.
    rw c.in_ok-name.ensures.plain (alone_is string_bytes _ _ c.if-is_empty.ensures)

pub returns-else-is_empty : goal.returns-else-is_empty
returns-else-is_empty c = λ command.
    rw c.in_ok-name.ensures.plain (alone_no string_bytes _ _ c.if-is_empty.ensures)

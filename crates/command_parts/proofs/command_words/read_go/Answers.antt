use Rattle.std.proofs.lemmas.Result.{err_from_is_err_and}
use Rattle.command_parts.specs.Command.{go_with, optional_plain, with_options}
use Rattle.command_parts.specs.Front.{ByTwo}
use Rattle.command_parts.proofs.WordLaws.{none_then}
use Rattle.command_parts.proofs.command_words.read_go.Goals as goal

-- what follows the two names
abbrev go_by : ByTwo
go_by = λ src amx more.
    with_options (go_with src amx (optional_plain more).0) (optional_plain more).1

pub returns-in_err-src : goal.returns-in_err-src
returns-in_err-src c =
    let p = err_from_is_err_and c.from_residual.result c.from_residual.ensures.1 in
    rw (p.1, p.2) (c.in_err-src.ensures.bad go_by)

pub returns-in_err-script : goal.returns-in_err-script
returns-in_err-script c =
    let p =
    err_from_is_err_and c.from_residual-in_err-script.result
    c.from_residual-in_err-script.ensures.1 in
    rw (p.1, p.2, c.in_err-script.ensures.free) tt

pub returns-in_err-options : goal.returns-in_err-options
returns-in_err-options c =
    let p =
    err_from_is_err_and c.from_residual-in_err-options.result
    c.from_residual-in_err-options.ensures.1 in
    rw (c.in_ok-src.ensures.plain go_by, c.in_ok-script.ensures.taken, p.1, p.2)
    (none_then _ _ _ c.in_err-options.ensures)

pub returns : goal.returns
returns c =
    rw (c.in_ok-src.ensures.plain go_by, c.in_ok-script.ensures.taken, c.in_ok-options.ensures)
    c.go_with.ensures

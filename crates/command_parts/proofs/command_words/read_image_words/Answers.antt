use Rattle.std.proofs.Common.{refl}
use Rattle.std.proofs.lemmas.Result.{err_from_is_err_and}
use Rattle.command_parts.specs.Command.{named, with_options}
use Rattle.command_parts.specs.Front.{ByTwo, ByImage}
use Rattle.command_parts.proofs.WordLaws.{none_then}
use Rattle.command_parts.proofs.command_words.read_image_words.Goals as goal

-- what follows the first two words
abbrev behind : ByImage → ByTwo
behind command = λ amx script. named (λ image. with_options (command amx script image))

pub returns-in_err-amx : goal.returns-in_err-amx
returns-in_err-amx c =
    let p = err_from_is_err_and c.from_residual.result c.from_residual.ensures.1 in
    rw (p.1, p.2) (λ command. c.in_err-amx.ensures.bad (behind command))

pub returns-in_err-image : goal.returns-in_err-image
returns-in_err-image c =
    let p =
    err_from_is_err_and c.from_residual-in_err-image.result
    c.from_residual-in_err-image.ensures.1 in
    rw (p.1, p.2) (λ command.
    rw (c.in_ok-amx.ensures.plain (behind command)) (none_then _ _ _ c.in_err-image.ensures.bad))

pub returns-in_err-options : goal.returns-in_err-options
returns-in_err-options c =
    let p =
    err_from_is_err_and c.from_residual-in_err-options.result
    c.from_residual-in_err-options.ensures.1 in
    rw (p.1, p.2) (λ command.
    rw (c.in_ok-amx.ensures.plain (behind command), c.in_ok-image.ensures.plain)
    (none_then _ _ _ c.in_err-options.ensures))

pub returns : goal.returns
returns c = λ command.
    rw (
      c.in_ok-amx.ensures.plain (behind command),
      c.in_ok-image.ensures.plain,
      c.in_ok-options.ensures,
    ) refl

use Rattle.std.proofs.Common.{refl}
use Rattle.std.proofs.lemmas.Result.{err_from_is_err_and}
use Rattle.std.specs.Option.{option_map}
use Rattle.command_parts.specs.declared.command.Command.TheVariants.{Assemble}
use Rattle.command_parts.specs.Command.{compact_of}
use Rattle.command_parts.specs.Front.{ByTwo}
use Rattle.command_parts.proofs.command_words.read_assemble.Goals as goal

-- what follows the two names
abbrev assemble_by : ByTwo
assemble_by = λ text amx more. option_map
    (λ compact. Assemble (record { text = text; amx = amx; compact = compact })) (compact_of more)

pub returns-in_err-text : goal.returns-in_err-text
returns-in_err-text c =
    let p = err_from_is_err_and c.from_residual.result c.from_residual.ensures.1 in
    rw (p.1, p.2) (c.in_err-text.ensures.bad assemble_by)

pub returns-in-Some : goal.returns-in-Some
returns-in-Some c = rw (c.in_ok-text.ensures.plain assemble_by, ← c.in-Some.ensures) refl

pub returns-in-None : goal.returns-in-None
returns-in-None c = rw (c.in_ok-text.ensures.plain assemble_by, ← c.in-None.ensures) refl

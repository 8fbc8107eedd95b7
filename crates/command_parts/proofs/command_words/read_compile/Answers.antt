use Rattle.std.proofs.Common.{refl}
use Rattle.std.proofs.lemmas.Result.{err_from_is_err_and}
use Rattle.std.specs.Option.{option_map}
use Rattle.command_parts.specs.declared.command.Command.TheVariants.{Compile}
use Rattle.command_parts.specs.Command.{compact_of}
use Rattle.command_parts.specs.Front.{ByTwo}
use Rattle.command_parts.proofs.command_words.read_compile.Goals as goal

-- what follows the two names
abbrev compile_by : ByTwo
compile_by = λ src amx more. option_map
    (λ compact. Compile (record { src = src; amx = amx; compact = compact })) (compact_of more)

pub returns-in_err-src : goal.returns-in_err-src
returns-in_err-src c =
    let p = err_from_is_err_and c.from_residual.result c.from_residual.ensures.1 in
    rw (p.1, p.2) (c.in_err-src.ensures.bad compile_by)

pub returns-in-Some : goal.returns-in-Some
returns-in-Some c = rw (c.in_ok-src.ensures.plain compile_by, ← c.in-Some.ensures) refl

pub returns-in-None : goal.returns-in-None
returns-in-None c = rw (c.in_ok-src.ensures.plain compile_by, ← c.in-None.ensures) refl

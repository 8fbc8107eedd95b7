use Rattle.std.proofs.lemmas.Result.{err_from_is_err_and}
use Rattle.std.specs.Option.{option_and_then}
use Rattle.std.specs.String.{string_bytes}
use Rattle.command_parts.specs.Command.{alone, sample_with}
use Rattle.command_parts.specs.Front.{ByTwo}
use Rattle.command_parts.proofs.WordLaws.{and_alone, and_more}
use Rattle.command_parts.proofs.measure_words.read_sample.Goals as goal

-- what follows the two names
abbrev sample_by : ByTwo
sample_by = λ number amx more.
    option_and_then (λ command. alone command more) (sample_with number amx)

pub returns-in_err-number : goal.returns-in_err-number
returns-in_err-number c =
    let p = err_from_is_err_and c.from_residual.result c.from_residual.ensures.1 in
    rw (p.1, p.2) (c.in_err-number.ensures.bad sample_by)

pub returns-then-is_empty : goal.returns-then-is_empty
returns-then-is_empty c =
    rw (
      c.in_ok-number.ensures.plain sample_by,
      and_alone string_bytes (sample_with c.in_ok-number.number c.in_ok-number.amx) _
          c.if-is_empty.ensures,
      ← c.as_str.ensures,
    ) c.sample_with.ensures

pub returns : goal.returns
returns c =
    rw (c.in_ok-number.ensures.plain sample_by)
    (and_more string_bytes (sample_with c.in_ok-number.number c.in_ok-number.amx) _
    c.if-is_empty.ensures)

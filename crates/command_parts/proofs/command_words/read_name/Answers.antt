use Rattle.std.proofs.Common.{◌∙◌, sym}
use Rattle.std.proofs.lemmas.Result.{err_from_is_err_and}
use Rattle.std.specs.String.{string_bytes}
use Rattle.command_parts.proofs.WordLaws.{first_none, first_other, first_is}
use Rattle.command_parts.proofs.command_words.read_name.Goals as goal

pub returns-in_default-clause-bad : goal.returns-in_default-clause-bad
returns-in_default-clause-bad c =
    first_none string_bytes c.args.words.now c.in_default.ensures.cases

pub returns-in_err-name-clause-bad : goal.returns-in_err-name-clause-bad
returns-in_err-name-clause-bad c =
    let p = err_from_is_err_and c.from_residual.result c.from_residual.ensures.1 in
    rw (p.1, p.2) tt

pub returns-then-is_plain-clause-plain : goal.returns-then-is_plain-clause-plain
returns-then-is_plain-clause-plain c =
    first_is string_bytes c.args.words.now c.in-Some.rest.now c.in-Some.word.now c.as_str.result.now
    c.in_ok-name.name c.in-Some.ensures.cases.0
    c.as_str.ensures.value c.if-is_plain.ensures
    (c.in_ok-name.ensures ∙ c.as_str-then-is_plain.ensures.value ∙ sym c.as_str.ensures.value)

pub returns-clause-bad : goal.returns-clause-bad
returns-clause-bad c =
    first_other string_bytes c.args.words.now c.in-Some.rest.now c.in-Some.word.now
    c.as_str.result.now c.in-Some.ensures.cases.0
    c.as_str.ensures.value c.if-is_plain.ensures

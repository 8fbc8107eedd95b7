use Rattle.std.proofs.Common.{◌++◌, ◌∙◌, sym, ap, rules}
use Rattle.std.proofs.lemmas.Result.{err_from_is_err_and}
use Rattle.pawn_outside.proofs.SaidLaws.{said_as, said_then, said_cut}
use Rattle.host_script.specs.Text.{values_text}
use Rattle.host_script.proofs.TextLaws.{cells_text, digits_of, values_text-cons}
use Rattle.host_script.proofs.arguments.say_values.Goals as goal

pub returns-in_err-say : goal.returns-in_err-say
returns-in_err-say g c =
    let first = c.in-Some.first.now in
    let others = c.in-Some.others.now in
    let digits =
    digits_of first c.as_bytes.result.now (search rules)
    (c.as_bytes.ensures.value ∙ c.format.ensures.text) in
    let is = err_from_is_err_and c.from_residual.result c.from_residual.ensures.1 in
    said_as (ap (λ text. text ++ cells_text others) digits ∙ sym (values_text-cons first others)
    ∙ ap values_text (sym c.in-Some.ensures.cases.0))
    (said_cut (cells_text others) c.from_residual.result is.1 c.in_err-say.ensures)

pub returns : goal.returns
returns g c =
    let first = c.in-Some.first.now in
    let others = c.in-Some.others.now in
    let digits =
    digits_of first c.as_bytes.result.now (search rules)
    (c.as_bytes.ensures.value ∙ c.format.ensures.text) in
    said_as (ap (λ text. text ++ cells_text others) digits ∙ sym (values_text-cons first others)
    ∙ ap values_text (sym c.in-Some.ensures.cases.0))
    (said_then c.in_ok-say.ensures c.say_plain.ensures)

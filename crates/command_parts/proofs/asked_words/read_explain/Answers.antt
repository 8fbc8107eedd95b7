use Rattle.std.specs.String.{string_bytes}
use Rattle.command_parts.proofs.WordLaws.{explain_none, explain_one, explain_more}
use Rattle.command_parts.proofs.asked_words.read_explain.Goals as goal

pub returns-in_default : goal.returns-in_default
returns-in_default c = explain_none string_bytes c.args.words.now c.in_default.ensures.cases

pub returns-then-is_empty : goal.returns-then-is_empty
returns-then-is_empty c =
    explain_one string_bytes c.args.words.now c.in-Some.rest.now c.in-Some.word.now
    c.as_str.result.now c.explain_on.result c.in-Some.ensures.cases.0 c.as_str.ensures.value
    c.if-is_empty.ensures (rw c.number_up_to.ensures.value at c.explain_on.ensures)

pub returns : goal.returns
returns c =
    explain_more string_bytes c.args.words.now c.in-Some.rest.now c.in-Some.word.now
    c.in-Some.ensures.cases.0 c.if-is_empty.ensures

use Rattle.std.specs.String.{string_bytes}
use Rattle.command_parts.proofs.WordLaws.{help_none, help_one, help_more}
use Rattle.command_parts.proofs.asked_words.read_help.Goals as goal

pub returns-in_default : goal.returns-in_default
returns-in_default c = help_none string_bytes c.args.words.now c.in_default.ensures.cases

pub returns-then-is_empty : goal.returns-then-is_empty
returns-then-is_empty c =
    help_one string_bytes c.args.words.now c.in-Some.rest.now c.in-Some.word.now
    c.as_str.result.now c.help_on.result c.in-Some.ensures.cases.0 c.as_str.ensures.value
    c.if-is_empty.ensures c.help_on.ensures

pub returns : goal.returns
returns c =
    help_more string_bytes c.args.words.now c.in-Some.rest.now c.in-Some.word.now
    c.in-Some.ensures.cases.0 c.if-is_empty.ensures

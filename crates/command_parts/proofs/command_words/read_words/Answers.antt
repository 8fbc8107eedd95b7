use Rattle.std.specs.String.{string_bytes}
use Rattle.command_parts.proofs.WordLaws.{command_none, command_is}
use Rattle.command_parts.proofs.command_words.read_words.Goals as goal

pub returns-in_default : goal.returns-in_default
returns-in_default c = command_none string_bytes c.args.words.now c.in_default.ensures.cases

pub returns : goal.returns
returns c =
    command_is string_bytes c.args.words.now c.in-Some.rest.now c.in-Some.word.now
    c.as_str.result.now c.read_asked.result c.in-Some.ensures.cases.0
    c.as_str.ensures.value c.read_asked.ensures

use Rattle.std.specs.String.{string_bytes}
use Rattle.command_parts.proofs.WordLaws.{compact_none, compact_one, compact_more}
use Rattle.command_parts.proofs.command_words.read_compact.Goals as goal

pub returns-in_default : goal.returns-in_default
returns-in_default c = compact_none string_bytes c.args.words.now c.in_default.ensures.cases

pub returns-then-is_empty : goal.returns-then-is_empty
returns-then-is_empty c =
    compact_one string_bytes c.args.words.now c.in-Some.rest.now c.in-Some.word.now
    c.as_str.result.now c.compact_word.result
    c.in-Some.ensures.cases.0 c.as_str.ensures.value c.if-is_empty.ensures c.compact_word.ensures

pub returns : goal.returns
returns c =
    compact_more string_bytes c.args.words.now c.in-Some.rest.now c.in-Some.word.now
    c.in-Some.ensures.cases.0 c.if-is_empty.ensures

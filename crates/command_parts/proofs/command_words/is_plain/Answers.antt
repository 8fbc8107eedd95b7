use Rattle.command_parts.proofs.WordLaws.{empty_is, other_is}
use Rattle.command_parts.proofs.command_words.is_plain.Goals as goal

pub returns-then-is_empty : goal.returns-then-is_empty
returns-then-is_empty c = empty_is c.args.word.now c.if-is_empty.ensures

pub returns : goal.returns
returns c =
    other_is c.args.word.now c.is_option.result c.if-is_empty.ensures c.is_option.ensures.0
    c.is_option.ensures.1

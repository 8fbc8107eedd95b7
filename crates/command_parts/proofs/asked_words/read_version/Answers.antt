use Rattle.std.specs.String.{string_bytes}
use Rattle.command_parts.specs.declared.command.Command.TheVariants.{Version}
use Rattle.command_parts.proofs.WordLaws.{alone_is, alone_no}
use Rattle.command_parts.proofs.asked_words.read_version.Goals as goal

pub returns-then-is_empty : goal.returns-then-is_empty
returns-then-is_empty c = alone_is string_bytes Version c.args.words.now c.if-is_empty.ensures

pub returns-else-is_empty : goal.returns-else-is_empty
returns-else-is_empty c = alone_no string_bytes Version c.args.words.now c.if-is_empty.ensures

use Rattle.command_many.proofs.MachineLaws.{word_is_text}
use Rattle.command_many.proofs.machines.text_of.Goals as goal

pub unreachable-requires : goal.unreachable-requires
unreachable-requires c =
    c.in-Err.ensures.cases.0 (word_is_text c.args.name.now c.requires)

use Rattle.pawn_meaning.specs.View.{program_view}
use Rattle.commands.proofs.UsageLaws.{has_start}
use Rattle.commands.proofs.usages.measure.Goals as goal

pub usage-requires : goal.usage-requires
usage-requires c = has_start (program_view c.args.sourced.program) c.args.sourced.names c.requires

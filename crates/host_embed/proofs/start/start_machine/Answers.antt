use Rattle.host_embed.proofs.StartLaws.{start_stands}
use Rattle.host_embed.proofs.start.start_machine.Goals as goal

pub returns-clause-stands : goal.returns-clause-stands
returns-clause-stands c =
    start_stands c.args.machine.now c.start-started.new.self c.args.cells.now c.registers.ensures.kept _
    c.start-started.result c.start-started.ensures

use Rattle.command_many.specs.Machines.{no_memory}
use Rattle.command_many.proofs.machines.add_machine.Goals as goal

pub returns-in-Err : goal.returns-in-Err
returns-in-Err c = no_memory

-- A command whose files and whose sink didn't fail, and which had the memory that it wanted.
use Rattle.std.specs.Prelude.{◌≢◌}
use Rattle.command_parts.specs.declared.status.Status.{Status}
use Rattle.command_parts.specs.declared.status.Status.TheVariants.{FileFault, SinkFault, NoMemory}

-- by what it answers
pub record IsUnfailing (answer : Status) : Type 0 where
  pub files : answer ≢ FileFault
  pub sink : answer ≢ SinkFault
  pub memory : answer ≢ NoMemory

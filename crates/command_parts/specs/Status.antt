-- The numbers of the statuses.
use Rattle.std.specs.Prelude.{ℕ}
use Rattle.command_parts.specs.declared.status.Status.{Status}
use Rattle.command_parts.specs.declared.status.Status.TheVariants.{Ok, Refused, BadWords, NoFile}
use Rattle.command_parts.specs.declared.status.Status.TheVariants.{TooLarge, FileFault, SinkFault}
use Rattle.command_parts.specs.declared.status.Status.TheVariants.{Invalid, BadScript, BadImage}
use Rattle.command_parts.specs.declared.status.Status.TheVariants.{NoEntry, Unregistered}
use Rattle.command_parts.specs.declared.status.Status.TheVariants.{Ended, Steps}
use Rattle.command_parts.specs.declared.status.Status.TheVariants.{Asleep, NoMemory, BadPlan}

-- the number that the program ends with
abbrev pub status_number : Status → ℕ
status_number Ok = 0
status_number Refused = 1
status_number BadWords = 2
status_number NoFile = 3
status_number TooLarge = 4
status_number FileFault = 5
status_number SinkFault = 6
status_number Invalid = 7
status_number BadScript = 8
status_number BadImage = 9
status_number NoEntry = 10
status_number Unregistered = 11
status_number Ended = 12
status_number Steps = 13
status_number Asleep = 14
status_number NoMemory = 15
status_number BadPlan = 16

use Rattle.std.proofs.Common.{ap}
use Rattle.command_parts.specs.ValidFile.{unread_by}
use Rattle.command_parts.proofs.valid.unread.Goals as goal

pub returns-in-Some : goal.returns-in-Some
returns-in-Some c = ap unread_by c.in-Some.ensures

pub returns-in-None : goal.returns-in-None
returns-in-None c = ap unread_by c.in-None.ensures

use Rattle.host_script.proofs.PlainLaws.{plain_is_script}
use Rattle.host_script.proofs.plain.plain_script.Goals as goal

pub returns-clause-ranges : goal.returns-clause-ranges
returns-clause-ranges c = rw (c.new.ensures, c.new-2.ensures) plain_is_script

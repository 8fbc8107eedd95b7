use Rattle.run_laws.proofs.SleepLaws.{sleeps_are_restorable_lem}
use Rattle.run_laws.proofs.laws.sleeps_are_restorable.Goals as goal

pub returns : goal.returns
returns c = sleeps_are_restorable_lem

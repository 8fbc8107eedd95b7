use Rattle.std.proofs.Common.{inl, refl}
use Rattle.commands.proofs.sources.stop_of.Goals as goal

pub returns-in-Refused-clause-stop : goal.returns-in-Refused-clause-stop
returns-in-Refused-clause-stop c = rw c.in-Refused.is (inl refl)

pub returns-in-TooLarge-clause-stop : goal.returns-in-TooLarge-clause-stop
returns-in-TooLarge-clause-stop c = rw c.in-TooLarge.is (inl refl)

pub returns-in-Files-clause-stop : goal.returns-in-Files-clause-stop
returns-in-Files-clause-stop c = rw c.in-Files.is (inl refl)

pub returns-in-Memory-clause-stop : goal.returns-in-Memory-clause-stop
returns-in-Memory-clause-stop c = rw c.in-Memory.is (inl refl)

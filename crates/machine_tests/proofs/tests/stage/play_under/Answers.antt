use Rattle.machine_tests.proofs.tests.stage.play_under.Goals as goal

pub play_on-requires-clause-bound : goal.play_on-requires-clause-bound
play_on-requires-clause-bound c = rw c.in_ok-machine.ensures.file c.in_ok-bound.ensures

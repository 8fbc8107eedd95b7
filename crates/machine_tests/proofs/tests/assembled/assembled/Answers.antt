use Rattle.std.proofs.Common.{◌==◌, arith}
use Rattle.std.proofs.lemmas.List.Sums.{count_by-le-length}
use Rattle.machine_tests.proofs.tests.assembled.assembled.Goals as goal

pub assemble-requires : goal.assemble-requires
assemble-requires c =
    omega (arith, count_by-le-length (λ byte. byte == 10) c.args.text.now, c.requires)

use Rattle.std.proofs.Common.{rules, w32, FitsSigned}
use Rattle.std.proofs.lemmas.Int.{to_z-of_z}
use Rattle.commands.proofs.counted.say_error.Goals as goal

pub returns-in-Ok-clause-is : goal.returns-in-Ok-clause-is
returns-in-Ok-clause-is g c =
    let fits : FitsSigned w32 c.args.code = search rules in
    to_z-of_z w32 c.args.code fits

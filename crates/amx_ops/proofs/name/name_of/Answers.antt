use Rattle.std.proofs.Common.{arith}
use Rattle.amx_ops.proofs.NameLaws.{name_from-few}
use Rattle.amx_ops.proofs.name.name_of.Goals as goal

pub returns-in-None : goal.returns-in-None
returns-in-None c =
    let few = name_from-few c.text_from-rest.result.now in
    absurd (omega (arith, few, c.in-None.ensures))

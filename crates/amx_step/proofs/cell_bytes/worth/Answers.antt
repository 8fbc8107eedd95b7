use Rattle.amx_step.proofs.PartLaws.{worth_is, worth_some}
use Rattle.amx_step.proofs.cell_bytes.worth.Goals as goal

pub returns : goal.returns
returns c =
    record { value = worth_is c.args.power c.requires; some = worth_some c.args.power c.requires }

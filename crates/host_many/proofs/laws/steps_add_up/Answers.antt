use Rattle.host_many.proofs.CutLaws.{steps_add_up as law}
use Rattle.host_many.proofs.laws.steps_add_up.Goals as goal

pub returns : goal.returns
returns c = law

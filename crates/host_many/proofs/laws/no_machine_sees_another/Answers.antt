use Rattle.host_many.proofs.ApartLaws.{none_sees_another as law}
use Rattle.host_many.proofs.laws.no_machine_sees_another.Goals as goal

pub returns : goal.returns
returns c = law

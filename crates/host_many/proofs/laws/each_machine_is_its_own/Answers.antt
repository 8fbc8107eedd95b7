use Rattle.host_many.proofs.ApartLaws.{each_is_its_own as law}
use Rattle.host_many.proofs.laws.each_machine_is_its_own.Goals as goal

pub returns : goal.returns
returns c = law

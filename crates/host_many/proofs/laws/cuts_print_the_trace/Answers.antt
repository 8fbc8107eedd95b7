use Rattle.host_many.proofs.CutLaws.{cuts_print_the_trace as law}
use Rattle.host_many.proofs.laws.cuts_print_the_trace.Goals as goal

pub returns : goal.returns
returns c = law

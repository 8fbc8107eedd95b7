use Rattle.pawn_laws.proofs.OneLawLaws.{compiled_runs_as_it_means}
use Rattle.pawn_laws.proofs.laws.what_is_compiled_runs_as_it_means.Goals as goal

pub returns : goal.returns
returns g c = compiled_runs_as_it_means _

use Rattle.pawn_pre.proofs.PageLaws.{only_outcome}
use Rattle.pawn_pre.proofs.source.preprocess.Goals as goal

pub returns-clause-only : goal.returns-clause-only
returns-clause-only g c = λ map. only_outcome map c.args.name.now

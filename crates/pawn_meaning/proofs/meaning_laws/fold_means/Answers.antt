use Rattle.pawn_meaning.proofs.FoldLaws.{fold_means_lem}
use Rattle.pawn_meaning.proofs.meaning_laws.fold_means.Goals as goal

pub returns : goal.returns
returns c = fold_means_lem

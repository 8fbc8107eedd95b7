use Rattle.pawn_meaning.proofs.NeedBounds.{need_is_small_lem}
use Rattle.pawn_meaning.proofs.meaning_laws.need_is_small.Goals as goal

pub returns : goal.returns
returns c = need_is_small_lem

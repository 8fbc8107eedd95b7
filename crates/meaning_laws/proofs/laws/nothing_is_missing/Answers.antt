use Rattle.meaning_laws.proofs.Finds.{nothing_is_missing_lem}
use Rattle.meaning_laws.proofs.laws.nothing_is_missing.Goals as goal

pub returns : goal.returns
returns c = nothing_is_missing_lem

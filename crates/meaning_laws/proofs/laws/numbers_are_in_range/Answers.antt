use Rattle.meaning_laws.proofs.Numbers.{numbers_are_in_range_lem}
use Rattle.meaning_laws.proofs.laws.numbers_are_in_range.Goals as goal

pub returns : goal.returns
returns c = numbers_are_in_range_lem

use Rattle.std.proofs.Common.{arith}
use Rattle.indexmap.proofs.CallerLemmas.{insert_entry-new}
use Rattle.pawn_tags.proofs.operators.Operators.define.Goals as goal

pub returns-clause-added : goal.returns-clause-added
returns-clause-added c = grind (arith, c.in-Ok.ensures.entries, insert_entry-new)

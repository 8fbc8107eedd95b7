use Rattle.std.proofs.lemmas.Str.{IsUtf8-from_ascii}
use Rattle.pawn_pre.proofs.walk.read_named.Goals as goal

pub returns-in-Err-clause-answer : goal.returns-in-Err-clause-answer
returns-in-Err-clause-answer g c =
    absurd (c.in-Err.ensures.cases.0 (IsUtf8-from_ascii _ c.requires))

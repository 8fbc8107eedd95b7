-- A match of a tail, as the code hands it over.
use Rattle.std.specs.Prelude.{◌≡◌, Option, Some, None}
use Rattle.pawn_pre.specs.declared.matching.TailMatch.{TailMatch}
use Rattle.pawn_pre.specs.Matching.{Match}

-- the same match, or none
abbrev pub IsMatched : Option Match → Option TailMatch → Type 0
IsMatched found None = found ≡ None
IsMatched found (Some m) = found ≡ Some (record { given = m.given; rest = m.rest.now })

-- A name that `defined` asks for, as the code hands it over.
use Rattle.std.specs.Prelude.{◌≡◌, Option, Some, None}
use Rattle.pawn_pre.specs.declared.defined.Question.{Question}
use Rattle.pawn_pre.specs.Defined.{Asked, asked}

-- the same name and bytes, or none
abbrev pub IsAsked : Option Asked → Option Question → Type 0
IsAsked found None = found ≡ None
IsAsked found (Some q) = found ≡ Some (asked q.name.now q.rest.now)

-- Whether a body is within the limit of its locals.
use Rattle.std.specs.Prelude.{List, [], ◌∷◌, Bool, true, nat_le}
use Rattle.pawn_meaning.specs.declared.program_limits.TheConstants.{LOCALS_LIMIT}
use Rattle.pawn_meaning.specs.Need.{locals}
use Rattle.types_rules.specs.Declarations as plain

-- whether the locals of the first body are within the limit
abbrev pub fits_in : List plain.Bodied → Bool
fits_in [] = true
fits_in (it ∷ more) = nat_le (locals it.body.slots it.body.stmt) LOCALS_LIMIT

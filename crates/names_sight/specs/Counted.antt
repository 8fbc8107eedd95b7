-- What a list in braces gives, by the count of its values and whether it goes on.
use Rattle.std.specs.Prelude.{ℕ, ℤ, pos, Bool, true, false}
use Rattle.pawn_cells.specs.declared.place.Place.{Place}
use Rattle.names_rules.specs.Verdict.{Verdict, Stands}
use Rattle.names_rules.specs.Around.{Around}
use Rattle.names_rules.specs.Worth.{not_constant}

-- so many values, unless `...` leaves open how many there are
abbrev pub counted : Around → Place → ℕ → Bool → Verdict ℤ
counted around place count true = not_constant around place
counted around place count false = Stands (pos count)

-- Parts one behind another, of which some may fall.
use Rattle.std.specs.Prelude.{[], ◌∷◌, Bool, true, false}
use Rattle.names_rules.specs.Verdict.{Verdict, Stands, Breaks}
use Rattle.types_rules.specs.VariableParts.{Judged, judged}

-- whether those so far stand, and one more
abbrev pub beside_by : Bool → Verdict Judged → Verdict Bool
beside_by stand (Stands part) = Stands stand
beside_by stand (Breaks []) = Stands false
beside_by stand (Breaks (fault ∷ more)) = Breaks (fault ∷ more)

-- all of them
abbrev pub all_by : Bool → Verdict Judged
all_by true = Stands judged
all_by false = Breaks []

-- Code that only judges gives nothing.
use Rattle.types_rules.specs.VariableParts.{Judged, judged}

-- a part that stands
abbrev pub judged_view : Unit {0} → Judged
judged_view nothing = judged

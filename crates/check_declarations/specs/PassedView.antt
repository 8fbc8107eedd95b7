-- That no rule is broken, as code answers it: with nothing more.
use Rattle.types_rules.specs.TypedTrees.{Passed, passed}

-- nothing, where no rule is broken
abbrev pub passed_view : Unit {0} → Passed
passed_view nothing = passed

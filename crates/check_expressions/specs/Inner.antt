-- The sizes behind the first, one before others.
use Rattle.std.specs.Prelude.{ℕ, List, [], ◌∷◌, ◌++◌, Option, None, Some}
use Rattle.pawn_tree.specs.declared.name.At.{At}
use Rattle.types_rules.specs.declared.fault.TheConstants.{CONSTANT_NEEDED}
use Rattle.names_rules.specs.Verdict.{Verdict, Stands}
use Rattle.types_rules.specs.Rule.{broken}
use Rattle.types_rules.specs.Sizes.{Dimension, Dimensions, Inner}

-- one size, which has to be given
abbrev pub single : At → List At → Option ℕ → Verdict Inner
single at warned None = broken CONSTANT_NEEDED at
single at warned (Some size) = Stands (record { sizes = size ∷ []; warned = warned })

-- one size more, which has to be given too
abbrev pub with_size : At → List At → Option ℕ → Inner → Verdict Inner
with_size at warned None more = broken CONSTANT_NEEDED at
with_size at warned (Some size) more =
    Stands (record { sizes = size ∷ more.sizes; warned = warned ++ more.warned })

-- the first size before those behind it
abbrev pub all_of : Dimension → Inner → Dimensions
all_of it more = record { first = it.size; inner = more.sizes; warned = it.warned ++ more.warned }

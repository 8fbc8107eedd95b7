-- The first size by a count of cells or of values.
use Rattle.std.specs.Prelude.{ℕ, ℤ, List, [], ◌∷◌, length, Bool, true, false, Option, None, Some}
use Rattle.pawn_tree.specs.declared.name.At.{At}
use Rattle.types_rules.specs.declared.fault.TheConstants.{CONSTANT_NEEDED, SIZES_DIFFER}
use Rattle.names_rules.specs.Verdict.{Verdict, Stands}
use Rattle.types_rules.specs.Rule.{broken}

-- a list of so many values gives their count where it doesn't go on
abbrev pub counted : At → ℕ → Bool → Verdict ℕ
counted at count true = broken CONSTANT_NEEDED at
counted at count false = Stands count

-- a text of so many cells gives them for one dimension alone
abbrev pub size_by : At → Option ℕ → Option ℕ → Verdict ℕ
size_by at second None = broken CONSTANT_NEEDED at
size_by at None (Some count) = Stands count
size_by at (Some size) (Some count) = broken SIZES_DIFFER at

-- the same by the text's cells, beside the sizes behind the first
abbrev pub text_by : At → List ℕ → Option (List ℤ) → Verdict ℕ
text_by at inner None = broken CONSTANT_NEEDED at
text_by at [] (Some values) = Stands (length values)
text_by at (size ∷ inner) (Some values) = broken SIZES_DIFFER at

-- A list for an array of these sizes, with the rows that it has.
use Rattle.std.specs.Prelude.{ℕ, List, Bool}
use Rattle.pawn_tree.specs.declared.name.At.{At}
use Rattle.pawn_tree.specs.Variables.{Inits}
use Rattle.names_rules.specs.Verdict.{Verdict}
use Rattle.types_rules.specs.Around.{Around}
use Rattle.types_rules.specs.Scope.{Scope}
use Rattle.types_rules.specs.FirstValues.{First, listed, parts, rows}

-- the first cells that a list gives
abbrev pub listed_by : Around → Scope → At → ℕ → List ℕ → Inits → Bool → Verdict First
listed_by cx scope at tag sizes xs goes_on =
    listed cx scope at tag sizes xs goes_on
    (rows cx scope at tag (parts cx scope at tag sizes) xs)

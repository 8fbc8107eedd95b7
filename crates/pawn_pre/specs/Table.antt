-- The definitions in force: what stands at each key.
use Rattle.std.specs.Prelude.{ℕ, List, map}
use Rattle.std.specs.Ordering.{nat_cmp}
use Rattle.std.specs.Cmp.Lexicographic.{slice_cmp}
use Rattle.std.specs.FinMap.{FinMap, from_entries}
use Rattle.pawn_pre.specs.declared.rule.Rule.{Rule}

-- what each key is replaced by, and what has to stand behind it
abbrev pub Rules : Type 0
Rules = FinMap (slice_cmp nat_cmp) Rule

-- the first entry of a key counts
abbrev pub rules_of : {K : Type 0} → (K → List ℕ) → List (K × Rule) → Rules
rules_of bytes_of entries = from_entries (map (λ e. (bytes_of e.0, e.1)) entries)

-- How far a pass over parts that stand one behind another has come: so many of them are behind
-- it, and the marks of the rest stand behind those so far.
use Rattle.std.specs.Prelude.{◌≡◌, ℕ, List, map, drop}
use Rattle.names_rules.specs.Mark.{Mark}
use Rattle.names_rules.specs.Lists.{all_marks}

-- `view` is what a definition sees of a part that code holds
pub record Passed {H A : Type 0} (marks : A → List Mark → List Mark) (view : H → A)
    (parts : List H) (begin : List Mark) (i : ℕ) (now : List Mark) : Type 0 where
  pub same : all_marks marks (map view parts) begin ≡ all_marks marks (map view (drop i parts)) now

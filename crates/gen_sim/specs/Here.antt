-- Where a statement stands: what a generator knows there.
use Rattle.std.specs.Prelude.{◌≤◌, ℕ, List, [], ◌∷◌, ◌++◌, Bool}
use Rattle.pawn_meaning.specs.Scope.{Scope, IsMade, with_made}

-- whether a loop is around it, and where `break` and `continue` lead then
pub record Exits : Type 0 where
  pub looped : Bool
  pub broke : ℕ
  pub continued : ℕ

-- its scope, the slots that were made since the loop's body began, and the exits
pub record Here : Type 0 where
  pub scope : Scope
  pub since : List ℕ
  pub exits : Exits

-- behind statements that make slots
abbrev pub behind : List ℕ → Here → Here
behind made here = record here { scope = with_made made here.scope; since = here.since ++ made }

-- in the body of a loop that begins here
abbrev pub within : Exits → Here → Here
within exits here = record here { since = []; exits = exits }

-- slots that no parameter is, and that weren't made before, each of them once
abbrev pub AreNew : Scope → List ℕ → Type 0
AreNew scope [] = Unit {0}
AreNew scope (s ∷ made) =
    (scope.params ≤ s) × ¬ (IsMade scope s) × AreNew (with_made (s ∷ []) scope) made

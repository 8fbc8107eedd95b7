-- Numbers that are added behind others.
use Rattle.std.specs.Prelude.{◌≡◌, ℕ, List, ◌++◌, drop, flat_map}

-- the old numbers stay in front
pub record Adds (old new more : List ℕ) : Type 0 where
  pub is : new ≡ old ++ more

-- the numbers of so many parts are added, and those of the rest are to come
pub record AddsSoFar {H : Type 0} (numbers_in : H → List ℕ) (parts : List H) (old : List ℕ) (i : ℕ)
    (now : List ℕ) : Type 0 where
  pub same : now ++ flat_map numbers_in (drop i parts) ≡ old ++ flat_map numbers_in parts

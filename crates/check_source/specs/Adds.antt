-- Names that are added behind others.
use Rattle.std.specs.Prelude.{◌≡◌, ℕ, List, ◌++◌, map, drop, flat_map}
use Rattle.std.specs.Borrow.{Bor}

-- names that code refers to
abbrev pub Names : Type 0
Names = List (Bor (List ℕ))

-- their bytes
abbrev pub bytes_of : Names → List (List ℕ)
bytes_of names = map (λ (name : Bor (List ℕ)). name.now) names

-- the old names stay in front
pub record Adds (old new : Names) (more : List (List ℕ)) : Type 0 where
  pub is : bytes_of new ≡ bytes_of old ++ more

-- the names of so many parts are added, and those of the rest are to come
pub record AddsSoFar {H : Type 0} (names_in : H → List (List ℕ)) (parts : List H)
    (old : Names) (i : ℕ)
    (now : Names) : Type 0 where
  pub same : bytes_of now ++ flat_map names_in (drop i parts)
      ≡ bytes_of old ++ flat_map names_in parts

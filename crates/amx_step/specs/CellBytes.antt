-- Bytes of one cell that are read or written together.
use Rattle.std.specs.Prelude.{◌≡◌, ◌⊎◌, ◌%◌, ◌<◌, ℕ}

-- 1, 2 or 4 of them
abbrev pub IsCount : ℕ → Type 0
IsCount n = (n ≡ 1) ⊎ ((n ≡ 2) ⊎ (n ≡ 4))

-- from a multiple of their count on
pub record IsPart (from count : ℕ) : Type 0 where
  pub is_count : IsCount count
  pub aligned : from % count ≡ 0
  pub below : from < 4

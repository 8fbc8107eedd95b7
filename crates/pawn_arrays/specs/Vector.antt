-- A list of offsets that another vector was appended to.
use Rattle.std.specs.Prelude.{◌≡◌, ℕ, ℤ, List, ◌++◌, length}
use Rattle.pawn_arrays.specs.Layout.{LeadsToParts}

-- so many offsets more, which lead to parts of a size behind them wherever they stand
pub record HasVector (count size : ℕ) (before after : List ℤ) : Type 0 where
  pub vector : List ℤ
  pub offsets : after ≡ before ++ vector
  pub counted : length vector ≡ count
  pub leads : (start : ℕ) → LeadsToParts start size vector

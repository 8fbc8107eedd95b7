-- What contracts see of a buffer: its bytes, and how many it has room for.
use Rattle.std.specs.Prelude.{ℕ, List}

-- an image is made in it
pub record Buffer : Type 0 where
  pub bytes : List ℕ
  pub room : ℕ

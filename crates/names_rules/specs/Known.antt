-- What is known of a name that is declared.
use Rattle.std.specs.Prelude.{ℕ, ℤ, List, Option}
use Rattle.names_rules.specs.Verdict.{Verdict}

-- what a declared name stands for
pub data Kind : Type 0 where
  -- a variable or parameter, with the sizes of an array, the outermost first
  Cells : List (Verdict ℤ) → Kind
  -- a constant, with its value
  Worth : Verdict ℤ → Kind
  Function : Kind

-- the token of the name in its declaration, which a predefined constant hasn't, and its tag's
-- number
pub record Known : Type 0 where
  pub token : Option ℕ
  pub tag : ℕ
  pub kind : Kind

-- What a sink has taken, where it tells it: a list of bytes that grows at its end.
use Rattle.std.specs.Prelude.{◌≡◌, ◌++◌, ℕ, List, Option, None, Some}
use Rattle.std.specs.Borrow.{Bor}
use Rattle.std.specs.List.{flat_map}

-- the bytes taken, and these behind them
abbrev pub with_more : Option (List ℕ) → List ℕ → Option (List ℕ)
with_more None bytes = None
with_more (Some taken) bytes = Some (taken ++ bytes)

-- a prefix, which may be empty or the whole
pub record IsFront (part whole : List ℕ) : Type 0 where
  pub rest : List ℕ
  pub whole_is : part ++ rest ≡ whole

-- a prefix of the bytes was taken
pub record WroteFront (old new : Option (List ℕ)) (bytes : List ℕ) : Type 0 where
  pub part : List ℕ
  pub written : new ≡ with_more old part
  pub front : IsFront part bytes

-- pieces, one behind another
abbrev pub joined : List (Bor (List ℕ)) → List ℕ
joined pieces = flat_map (λ piece. piece.now) pieces

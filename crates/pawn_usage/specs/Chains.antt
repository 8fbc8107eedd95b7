-- Chains of calls: which functions call which, the lists of functions that may be alive together,
-- and what they need.
use Rattle.std.specs.Prelude.{◌≡◌, ◌+◌, ◌<◌, ℕ, List, [], ◌∷◌, ◌++◌, Option, None, Some, Contains}
use Rattle.std.specs.Prelude.{length, map, slice_get}
use Rattle.pawn_meaning.specs.Program.{Function, Public, Program}
use Rattle.pawn_meaning.specs.Need.{need}
use Rattle.pawn_usage.specs.Called.{at_most_one, called_from}

-- the need of a function, 0 where there is none
abbrev pub need_of : Option Function → ℕ
need_of None = 0
need_of (Some function) = need function

module _ (program : Program) where
  -- the functions that the bodies of the function with this number call
  abbrev pub called_at : ℕ → List ℕ
  called_at f = called_from program (slice_get program.functions f)

  -- some body of the first function calls the second
  pub record Calls (f g : ℕ) : Type 0 where
    pub there : g < length program.functions
    pub called : Contains (called_at f) g

  -- main, and the public functions
  abbrev pub starts : List ℕ
  starts = at_most_one program.entry ++ map (λ (item : Public). item.function) program.publics

  -- main or a public function
  pub record IsStart (f : ℕ) : Type 0 where
    pub there : f < length program.functions
    pub started : Contains starts f

  -- functions behind a first one, each called by the one before it
  abbrev pub Follows : ℕ → List ℕ → Type 0
  Follows f [] = Unit {0}
  Follows f (g ∷ gs) = Calls f g × Follows g gs

  -- main or a public function, and others, each called by the one before it
  abbrev pub IsChain : List ℕ → Type 0
  IsChain [] = ⊥
  IsChain (f ∷ fs) = IsStart f × Follows f fs

  -- the cells that a function needs by its number
  abbrev pub need_at : ℕ → ℕ
  need_at f = need_of (slice_get program.functions f)

  -- the cells that the functions of a list need together
  abbrev pub chain_need : List ℕ → ℕ
  chain_need [] = 0
  chain_need (f ∷ fs) = need_at f + chain_need fs

-- the last function stands earlier in the list
pub record IsRecursive (chain : List ℕ) : Type 0 where
  pub earlier : List ℕ
  pub last : ℕ
  pub is : chain ≡ earlier ++ last ∷ []
  pub again : Contains earlier last

-- What the use of the stack by a program is.
use Rattle.std.specs.Prelude.{◌≡◌, ◌≤◌, ℕ, List}
use Rattle.pawn_meaning.specs.Program.{Program}
use Rattle.pawn_usage.specs.declared.answer.Usage.{Usage}
use Rattle.pawn_usage.specs.declared.answer.Usage.TheVariants.{Bound, Recursive}
use Rattle.pawn_usage.specs.Chains.{IsChain, chain_need, IsRecursive, IsStart}

-- main or a public function is there
pub record HasStart (program : Program) : Type 0 where
  pub start : ℕ
  pub is : IsStart program start

-- a chain needs so many cells, none needs more, and none is recursive
pub record IsBound (program : Program) (cells : ℕ) (chain : List ℕ) : Type 0 where
  pub is_chain : IsChain program chain
  pub needs : chain_need program chain ≡ cells
  pub greatest : (other : List ℕ) → IsChain program other → chain_need program other ≤ cells
  pub none_recursive : (other : List ℕ) → IsChain program other → ¬ IsRecursive other

-- a chain that comes back to one of its functions
pub record IsRecursion (program : Program) (chain : List ℕ) : Type 0 where
  pub is_chain : IsChain program chain
  pub recursive : IsRecursive chain

-- a bound, or where there is none a recursive chain
abbrev pub IsUsage : Program → Usage → Type 0
IsUsage program (Bound cells chain) = IsBound program cells chain
IsUsage program (Recursive chain) = IsRecursion program chain

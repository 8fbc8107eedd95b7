-- Addresses in some items: where one of them starts, and not their end.
use Rattle.std.specs.Prelude.{◌≡◌, ◌+◌, ◌*◌, ◌⊎◌, ℕ, List, [], ◌∷◌}
use Rattle.gen_sim.specs.Items.{Item, size}
use Rattle.gen_laws.specs.Well.{TableAt}

-- an address at which an item starts
abbrev pub InnerAt : ℕ → List Item → ℕ → Type 0
InnerAt begin [] at = ⊥
InnerAt begin (it ∷ items) at = (at ≡ begin) ⊎ InnerAt (begin + 4 * size it) items at

-- something holds of each start of some items, and something of each of their case tables
pub record HoldsIn (T U : ℕ → Type 0) (begin : ℕ) (items : List Item) : Type 0 where
  pub starts : (at : ℕ) → InnerAt begin items at → T at
  pub tables : (at : ℕ) → TableAt begin items at → U at

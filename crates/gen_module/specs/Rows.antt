-- Parts of code one behind another, each made from where it begins.
use Rattle.std.specs.Prelude.{ℕ, zero, suc, List, [], ◌∷◌, ◌++◌}
use Rattle.gen_sim.specs.Items.{Item, past}

-- the items of all parts in their order
abbrev pub row_items : {A : Type 0} → (ℕ → A → List Item) → ℕ → List A → List Item
row_items part at [] = []
row_items part at (x ∷ xs) = part at x ++ row_items part (past at (part at x)) xs

-- where one of them begins, by its number
abbrev pub row_begin : {A : Type 0} → (ℕ → A → List Item) → ℕ → List A → ℕ → ℕ
row_begin part at [] n = at
row_begin part at (x ∷ xs) zero = at
row_begin part at (x ∷ xs) (suc n) = row_begin part (past at (part at x)) xs n

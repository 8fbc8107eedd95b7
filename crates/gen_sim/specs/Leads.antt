-- Where the part of a reference lies: in one of an object's vectors of offsets, or among its own
-- cells. One recursion over the sizes serves any number of dimensions.
use Rattle.std.specs.Prelude.{◌≡◌, ◌+◌, ◌*◌, ◌≤◌, ◌⊎◌, ℕ, List, [], ◌∷◌}
use Rattle.pawn_arrays.specs.Sizes.{elements_in}
use Rattle.pawn_meaning.specs.References.{other_sizes}

-- the cells of its level that a part with these sizes takes
abbrev pub span : List ℕ → ℕ
span [] = 1
span (size ∷ inner) = size

-- in a level of n cells that begins at one: a part with these sizes, `at` elements behind the
-- object's beginning, has its first cell there. Each cell of the level leads to a part with the
-- sizes behind it
pub record LeadsHere (first n : ℕ) (behind sizes : List ℕ) (at cell : ℕ) : Type 0 where
  pub steps : ℕ
  pub at_is : at ≡ steps * elements_in behind
  pub cell_is : cell ≡ first + steps
  pub behind_is : other_sizes sizes ≡ behind
  pub inside : steps + span sizes ≤ n

-- in this level of an object, or in one behind it
abbrev pub LeadsFrom : List ℕ → (first n : ℕ) → List ℕ → (at cell : ℕ) → Type 0
LeadsFrom [] first n sizes at cell = LeadsHere first n [] sizes at cell
LeadsFrom (size ∷ inner) first n sizes at cell =
    LeadsHere first n (size ∷ inner) sizes at cell
    ⊎ LeadsFrom inner (first + n) (n * size) sizes at cell

-- of an object with the sizes `all` that begins at a cell: a part with sizes of its own, so many
-- elements behind the beginning, is the one with its first cell there
abbrev pub Leads : (all : List ℕ) → (first : ℕ) → (sizes : List ℕ) → (at cell : ℕ) → Type 0
Leads [] first sizes at cell = ⊥
Leads (n ∷ inner) first sizes at cell = LeadsFrom inner first n sizes at cell

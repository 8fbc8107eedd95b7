-- The declarations in sight as code holds them: each name with the number of its declaration, block
-- by block with the innermost first, and in each block with the latest first.
use Rattle.std.specs.Prelude.{ℕ, Bool, false, ◌||◌, if◌then◌else◌, List, [], ◌∷◌, Option, Some, None}
use Rattle.std.specs.Str.{bytes_eq}
use Rattle.names_sight.specs.declared.scopes.Hidden.{Hidden}

-- blocks of names with numbers
abbrev pub Numbered : Type 0
Numbered = List (List (List ℕ × ℕ))

-- with one more declaration in the innermost block
abbrev pub with_number : List ℕ → ℕ → Numbered → Numbered
with_number name number [] = ((name, number) ∷ []) ∷ []
with_number name number (block ∷ outer) = ((name, number) ∷ block) ∷ outer

-- without the innermost block
abbrev pub outer_of : Numbered → Numbered
outer_of [] = []
outer_of (block ∷ outer) = outer

-- the number of a name in a block, else what it is elsewhere
abbrev pub in_block : List (List ℕ × ℕ) → List ℕ → Option ℕ → Option ℕ
in_block [] name elsewhere = elsewhere
in_block (entry ∷ more) name elsewhere =
    if bytes_eq entry.0 name then Some entry.1 else in_block more name elsewhere

-- the number in the innermost block that has the name
abbrev pub number_of : Numbered → List ℕ → Option ℕ
number_of [] name = None
number_of (block ∷ outer) name = in_block block name (number_of outer name)

-- the block declares the name
abbrev pub has_name : List (List ℕ × ℕ) → List ℕ → Bool
has_name [] name = false
has_name (entry ∷ more) name = bytes_eq entry.0 name || has_name more name

-- the innermost block has the name
abbrev pub innermost_has : Numbered → List ℕ → Bool
innermost_has [] name = false
innermost_has (block ∷ outer) name = has_name block name

-- ---- as one list, the latest first, with None where a block begins

-- declarations, each of which hides what its name meant before
abbrev pub Stack : Type 0
Stack = List (Option Hidden)

-- the list cut where blocks begin
abbrev pub blocks_of : Stack → Numbered
blocks_of [] = []
blocks_of (None ∷ more) = [] ∷ blocks_of more
blocks_of (Some it ∷ more) = with_number it.name.now it.declared.number (blocks_of more)

-- Code whose calls are led to their functions.
use Rattle.std.specs.Prelude.{◌<◌, ℕ, ℤ, pos, List, [], ◌∷◌, slice_set}
use Rattle.gen_expr.specs.Built.{Built}

-- no code yet
abbrev pub nothing : Built
nothing = record { code = []; waits = [] }

-- with the address of its function in each cell that waits
abbrev pub linked_with : (ℕ → ℕ) → List (ℕ × ℕ) → List ℤ → List ℤ
linked_with entry [] code = code
linked_with entry (wait ∷ waits) code =
    linked_with entry waits (slice_set code wait.0 (pos (entry wait.1)))

-- the cells that wait are cells of so many
abbrev pub AreIn : ℕ → List (ℕ × ℕ) → Type 0
AreIn count [] = Unit {0}
AreIn count (wait ∷ waits) = (wait.0 < count) × AreIn count waits

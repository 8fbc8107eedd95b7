-- Bytes in which the names of a file stand.
use Rattle.std.specs.Prelude.{◌≡◌, ◌+◌, ◌-◌, ◌<◌, ◌≤◌, ℕ, List, length, drop}
use Rattle.amx_ops.specs.Names.{name_from}

-- a name that begins in a text, which begins at a place of a file, is the file's name there
abbrev pub HasNames : List ℕ → List ℕ → ℕ → Type 0
HasNames bytes text first = (place : ℕ) → first ≤ place → place < first + length text
    → name_from (drop (place - first) text) ≡ name_from (drop place bytes)

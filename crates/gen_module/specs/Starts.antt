-- Where parts of code begin.
use Rattle.std.specs.Prelude.{◌≡◌, ℕ, ℤ, pos, List, Some, slice_get}

-- what is found in a list, by a part's number, is where the part begins
abbrev pub Finds : (ℕ → ℕ) → List ℤ → Type 0
Finds address starts = (n : ℕ) (x : ℤ) → slice_get starts n ≡ Some x → x ≡ pos (address n)

-- Numbers and names that C sees.
use Rattle.std.specs.Prelude.{◌≡◌, ◌++◌, ℕ, ℤ, pos, List, Option, None, Some, length, take, drop}
use Rattle.std.specs.Prelude.{slice_get}
use Rattle.amx_ops.specs.declared.amx.Record.{Record}

-- a number, or 20 where there is none
abbrev pub NumbersFor : Option ℕ → ℤ → ℕ → ℕ → Type 0
NumbersFor (Some number) code old new = (code ≡ pos 0) × (new ≡ number)
NumbersFor None code old new = (code ≡ pos 20) × (new ≡ old)

-- as many bytes as there is room for, and their count
abbrev pub IsName : Option Record → ℤ → List ℕ → List ℕ → ℕ → ℕ → Type 0
IsName (Some it) code old new size size' =
    (code ≡ pos 0) × (new ≡ take (length old) it.name ++ drop (length it.name) old)
    × (size' ≡ length it.name)
IsName None code old new size size' = (code ≡ pos 20) × (new ≡ old) × (size' ≡ size)

-- the name of the record with a number
abbrev pub NamesFor : List Record → ℕ → ℤ → List ℕ → List ℕ → ℕ → ℕ → Type 0
NamesFor records number = IsName (slice_get records number)

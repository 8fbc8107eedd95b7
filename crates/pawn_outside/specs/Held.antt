-- What files hold, where they tell it: a finite map from names to bytes.
use Rattle.std.specs.Prelude.{◌≡◌, ℕ, List, Option, None, Some, IsSomeAnd}
use Rattle.std.specs.Ordering.{nat_cmp}
use Rattle.std.specs.Cmp.Lexicographic.{slice_cmp}
use Rattle.std.specs.FinMap.{FinMap, get, insert, remove}

-- bytes by name
abbrev pub Held : Type 0
Held = FinMap (slice_cmp nat_cmp) (List ℕ)

-- the name holds these bytes, or nothing at `None`
abbrev pub Tells : Option Held → List ℕ → Option (List ℕ) → Type 0
Tells None name bytes = Unit {0}
Tells (Some map) name bytes = get map name ≡ bytes

-- the name holds bytes of which this is true
abbrev pub HoldsThat : Option Held → List ℕ → (List ℕ → Type 0) → Type 0
HoldsThat None name P = Unit {0}
HoldsThat (Some map) name P = IsSomeAnd (get map name) P

-- the same files, but this name holds these bytes
abbrev pub with_put : Option Held → List ℕ → List ℕ → Option Held
with_put None name bytes = None
with_put (Some map) name bytes = Some (insert map name bytes)

-- all files but this one
abbrev pub without : Option Held → List ℕ → Option Held
without None name = None
without (Some map) name = Some (remove map name)

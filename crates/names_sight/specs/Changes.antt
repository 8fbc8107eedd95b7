-- How what is declared changes; what is known everywhere stays.
use Rattle.std.specs.Prelude.{◌≡◌, ℕ, List, [], ◌∷◌, ◌++◌, length}
use Rattle.names_sight.specs.declared.context.Context.{Context}
use Rattle.names_sight.specs.declared.known.Known.{Known}
use Rattle.names_sight.specs.Scopes.{Numbered, with_number, outer_of}

-- these are declared, and these of them are in sight
pub record IsNow (old new : Context) (known : List Known) (scopes : Numbered) : Type 0 where
  pub known_now : new.known ≡ known
  pub scopes_now : new.scopes ≡ scopes
  pub tags : new.tags ≡ old.tags
  pub operators : new.operators ≡ old.operators
  pub names : new.names ≡ old.names

-- a name is declared, and gets the next number
abbrev pub Declares : Context → Context → List ℕ → Known → Type 0
Declares old new name it =
    IsNow old new (old.known ++ it ∷ []) (with_number name (length old.known) old.scopes)

-- a block begins
abbrev pub Enters : Context → Context → Type 0
Enters old new = IsNow old new old.known ([] ∷ old.scopes)

-- the innermost block ends
abbrev pub Leaves : Context → Context → Type 0
Leaves old new = IsNow old new old.known (outer_of old.scopes)

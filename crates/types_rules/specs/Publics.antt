-- The public functions of a source (Language Guide, "Functions", on public functions): those that
-- say so, in a forward or a body, and those whose names begin with `@`; in the order of their
-- names' bytes, and of their numbers.
use Rattle.std.specs.Prelude.{ℕ, ◌+◌, List, [], ◌∷◌, Bool, true, false, ◌&&◌, ◌||◌, nat_eq, nat_lt}
use Rattle.std.specs.Prelude.{if◌then◌else◌}
use Rattle.std.specs.List.{list_any}
use Rattle.pawn_meaning.specs.Program.{Public}
use Rattle.types_rules.specs.Groups.{Written, Group}
use Rattle.types_rules.specs.Headings.{Heading, belongs, public_name}
use Rattle.types_rules.specs.Sources.{Source}

-- not above, byte by byte
abbrev pub not_above : List ℕ → List ℕ → Bool
not_above [] other = true
not_above (x ∷ xs) [] = false
not_above (x ∷ xs) (y ∷ ys) = nat_lt x y || (nat_eq x y && not_above xs ys)

-- in its place among others, behind those of its own name
abbrev pub inserted : Public → List Public → List Public
inserted it [] = it ∷ []
inserted it (other ∷ more) =
    if not_above other.name it.name then other ∷ inserted it more else it ∷ (other ∷ more)

-- the first of these is put in first
unfoldable pub sorted : List Public → List Public → List Public
sorted done [] = done
sorted done (it ∷ more) = sorted (inserted it done) more

-- 64 is `@`
abbrev pub begins_with_at : List ℕ → Bool
begins_with_at [] = false
begins_with_at (byte ∷ more) = nat_eq byte 64

-- the name of a function is that of its first body
abbrev pub group_name : List Written → List ℕ
group_name [] = []
group_name (it ∷ more) = public_name it.function.head.name

module _ (source : Source) where
  -- a head of the function says so
  abbrev pub heading_says : Group → Heading → Bool
  heading_says group it = it.is_public && belongs source.tags source.fallback group.key it

  -- some head of the function begins with `public`
  abbrev pub says_public : Group → Bool
  says_public group =
      list_any (λ it. heading_says group it) source.headings

  -- the host may call the function by its name
  abbrev pub is_public : Group → Bool
  is_public group = says_public group || begins_with_at (group_name group.bodies)

  -- by number, from a first one on
  unfoldable pub publics_from : ℕ → List Group → List Public
  publics_from number [] = []
  publics_from number (group ∷ more) =
      if is_public group
      then record { name = group_name group.bodies; function = number }
      ∷ publics_from (number + 1) more
      else publics_from (number + 1) more

  -- the table of public functions, sorted by name
  abbrev pub publics : List Public
  publics = sorted [] (publics_from 0 source.groups)

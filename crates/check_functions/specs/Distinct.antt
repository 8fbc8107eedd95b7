-- No two functions of a source have one key.
use Rattle.std.specs.Prelude.{◌≡◌, ℕ, List, true, if◌then◌else◌, nat_lt, slice_get, Option, None}
use Rattle.std.specs.Prelude.{Some}
use Rattle.pawn_tags.specs.Overloads.{Overloads, with_overload}
use Rattle.types_rules.specs.Keys.{Key, Named, Operates, Enters, Misshapen, same_key}
use Rattle.types_rules.specs.Groups.{Group, number_of}

-- each is found by its key, unless no operator may have its head
pub record IsDistinct (groups : List Group) : Type 0 where
  pub number : (i : ℕ) (group : Group) → slice_get groups i ≡ Some group
      → same_key group.key group.key ≡ true
      → number_of groups group.key ≡ Some i

-- a number that is below another
abbrev pub below : ℕ → Option ℕ → Option ℕ
below i None = None
below i (Some n) = if nat_lt n i then Some n else None

-- user operators with a function by its key, where it is one
abbrev pub defined_by : Overloads → ℕ → Key → Overloads
defined_by operators number (Named name) = operators
defined_by operators number (Operates it) = with_overload operators it.op it.left it.right number
defined_by operators number (Enters name) = operators
defined_by operators number Misshapen = operators

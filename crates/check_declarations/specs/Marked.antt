-- Which functions the headings of a source say to be public.
use Rattle.std.specs.Prelude.{◌≡◌, ℕ, List, [], ◌∷◌, Bool, true, false, ◌&&◌, length, slice_get}
use Rattle.std.specs.Prelude.{unwrap_or, Option, None, Some}
use Rattle.std.specs.List.{list_any}
use Rattle.types_rules.specs.Keys.{Key}
use Rattle.types_rules.specs.Groups.{Group, number_of}
use Rattle.pawn_meaning.specs.Program.{Public}
use Rattle.types_rules.specs.Headings.{Heading}
use Rattle.check_source.specs.Update.{updated}
use Rattle.check_functions.specs.Own.{enters_all, own_key, is_key}

-- with the function of a number marked
abbrev pub marked : Option ℕ → List Bool → List Bool
marked None flags = flags
marked (Some number) flags = updated flags number (λ (flag : Bool). true)

-- whether the function of a number is marked
abbrev pub flag_at : List Bool → Option ℕ → Bool
flag_at flags None = false
flag_at flags (Some number) = unwrap_or (slice_get flags number) false

-- a heading that says that all entry functions are public
abbrev pub says_all : Heading → Bool
says_all it = it.is_public && enters_all it

module _ (names : List (List ℕ)) (fallback : List ℕ) where
  -- the key of a heading that says so, where it is of one function alone
  abbrev pub key_if : Bool → Heading → Option Key
  key_if true it = own_key names fallback it
  key_if false it = None

  -- the function that a heading with `public` is of
  abbrev pub public_key : Heading → Option Key
  public_key it = key_if it.is_public it

  -- whether it says so of this function
  abbrev pub says_own : Key → Heading → Bool
  says_own key it = is_key names fallback key (public_key it)

  -- what is kept of the headings: a mark for each function, and one for all entry functions
  pub record AreMarked (groups : List Group) (headings : List Heading) (flags : List Bool)
      (entry : Bool) : Type 0 where
    pub long : length flags ≡ length groups
    pub marks : (key : Key) (n : ℕ) → number_of groups key ≡ Some n
        → slice_get flags n ≡ Some (list_any (says_own key) headings)
    pub entering : entry ≡ list_any says_all headings

-- a function, where it is public
abbrev pub public_by : Bool → List ℕ → ℕ → List Public
public_by true name function = record { name = name; function = function } ∷ []
public_by false name function = []

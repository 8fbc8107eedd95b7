-- Which headings are of one function alone, and which are of all entry functions; and the first
-- heading of each function.
use Rattle.std.specs.Prelude.{◌≡◌, ℕ, List, Bool, false, if◌then◌else◌, length, position, slice_get}
use Rattle.std.specs.Prelude.{Option, None, Some, min}
use Rattle.std.specs.Option.{option_or, option_and_then}
use Rattle.types_rules.specs.Keys.{Key, same_key}
use Rattle.types_rules.specs.Groups.{Group, is_entry, number_of}
use Rattle.check_source.specs.Update.{updated}
use Rattle.types_rules.specs.Headings.{Heading, Role, IsNative, IsForward, IsBody, heading_key}
use Rattle.types_rules.specs.Headings.{is_enters}

-- whether a heading is of all entry functions, by what stands behind it
abbrev pub enters_by : Heading → Role → Bool
enters_by it IsNative = false
enters_by it IsForward = is_entry it.head.name
enters_by it IsBody = false

-- a forward of `entry`
abbrev pub enters_all : Heading → Bool
enters_all it = enters_by it it.role

module _ (names : List (List ℕ)) (fallback : List ℕ) where
  -- the key of a heading, where it is of one function alone
  abbrev pub own_by : Heading → Role → Option Key
  own_by it IsNative = None
  own_by it IsForward = if is_entry it.head.name then None else Some (heading_key names fallback it)
  own_by it IsBody = Some (heading_key names fallback it)

  -- by what stands behind it
  abbrev pub own_key : Heading → Option Key
  own_key it = own_by it it.role

  -- this function
  abbrev pub is_key : Key → Option Key → Bool
  is_key key None = false
  is_key key (Some own) = same_key key own

  -- a heading of this function alone
  abbrev pub is_own : Key → Heading → Bool
  is_own key it = is_key key (own_key it)

  -- what is kept of each function is the place of its first own heading, and that of the first
  -- heading of all entry functions
  pub record AreFirsts (groups : List Group) (headings : List Heading) (own : List (Option ℕ))
      (entry : Option ℕ) : Type 0 where
    pub long : length own ≡ length groups
    pub firsts : (key : Key) (n : ℕ) → number_of groups key ≡ Some n
        → slice_get own n ≡ Some (position (is_own key) headings)
    pub entering : entry ≡ position enters_all headings

-- the number of a function with a key, where there is a key
abbrev pub number_in : List Group → Option Key → Option ℕ
number_in groups None = None
number_in groups (Some key) = number_of groups key

-- with the place of a heading of this function, unless it has one
abbrev pub noted : Option ℕ → ℕ → List (Option ℕ) → List (Option ℕ)
noted None place own = own
noted (Some number) place own =
    updated own number (λ (first : Option ℕ). option_or first (Some place))

-- what stands at a number
abbrev pub own_at : List (Option ℕ) → Option ℕ → Option ℕ
own_at own None = None
own_at own (Some number) = option_and_then (λ (first : Option ℕ). first) (slice_get own number)

-- a key that isn't a function's is no head's that stands
pub record HasNumber (groups : List Group) (key : Key) : Type 0 where
  pub known : number_of groups key ≡ None → same_key key key ≡ false

-- the lesser of two places
abbrev pub least : Option ℕ → Option ℕ → Option ℕ
least None other = other
least (Some m) None = Some m
least (Some m) (Some n) = Some (min m n)

-- by whether a function is an entry function
abbrev pub first_by : Key → Option ℕ → Option ℕ → Option ℕ
first_by key own entry = if is_enters key then least own entry else own

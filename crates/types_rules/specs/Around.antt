-- What is known of the whole source where an expression stands.
use Rattle.std.specs.Prelude.{ℕ, ℤ, List, [], ◌∷◌, Bool, Option, unwrap_or, option_map, slice_get}
use Rattle.pawn_tags.specs.Overloads.{Overloads}
use Rattle.pawn_tags.specs.Tags.{untagged, number_of}
use Rattle.pawn_meaning.specs.Scope.{Extent}

-- what a parameter is without an argument
pub data Default : Type 0 where
  NoDefault : Default
  -- a value and its tag
  Always : ℤ → ℕ → Default
  -- the first size, or the tag, of the parameter with this number
  SizeOf : ℕ → Default
  TagOf : ℕ → Default

-- a parameter: its name, whether it is constant and a reference, its tags, how far its array
-- reaches where it is one, and its default
pub record Param : Type 0 where
  pub name : List ℕ
  pub constant : Bool
  pub reference : Bool
  pub tags : List ℕ
  pub extent : Option Extent
  pub default : Default

-- what a function is called with: its parameters, and the tags of `...` where it has it
pub record Head : Type 0 where
  pub params : List Param
  pub rest : Option (List ℕ)

-- what can be called: its number, the tag of its result, and its head, unless that is broken
pub record Callable : Type 0 where
  pub number : ℕ
  pub tag : ℕ
  pub head : Option Head

-- the names of tags, the user operators, the functions by number, and the natives in order of
-- declaration
pub record Around : Type 0 where
  pub tags : List (List ℕ)
  pub operators : Overloads
  pub functions : List Callable
  pub natives : List Callable

-- the number of a tag's name
abbrev pub tag_number : Around → List ℕ → ℕ
tag_number cx name = unwrap_or (number_of cx.tags name) untagged

-- the tag of what a function gives
abbrev pub function_tag : Around → ℕ → ℕ
function_tag cx f =
    unwrap_or (option_map (λ (it : Callable). it.tag) (slice_get cx.functions f)) untagged

-- a set's first tag, which is the parameter's own
abbrev pub first_tag : List ℕ → ℕ
first_tag [] = untagged
first_tag (tag ∷ more) = tag

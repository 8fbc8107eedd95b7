-- The path of declarations at a place: those of the enclosing blocks that ended before it, the
-- innermost block first (Language Guide, "Scope"). At the file's level the predefined constants
-- stand too.
use Rattle.std.specs.Prelude.{ℕ, ℤ, List, [], ◌∷◌, ◌++◌, Bool, true, false, if◌then◌else◌, Option}
use Rattle.std.specs.Prelude.{Some, None, option_map, reverse}
use Rattle.std.specs.Option.{option_or}
use Rattle.std.specs.Str.{bytes_eq}
use Rattle.pawn_cells.specs.Constants.{predefined}
use Rattle.pawn_cells.specs.declared.constant.Constant as held
use Rattle.pawn_meaning.specs.Program.{Scalar}
use Rattle.pawn_meaning.specs.Program as code
use Rattle.pawn_meaning.specs.Scope.{Extent}

-- what a declaration makes of its name
pub data Meaning : Type 0 where
  -- a value and a tag
  Constant : ℤ → ℕ → Meaning
  -- a place, a tag, and whether it is constant
  Variable : Scalar → ℕ → Bool → Meaning
  -- an array, how far it reaches, a tag, and whether it is constant
  Array : code.Array → Extent → ℕ → Bool → Meaning
  -- a function's number, and the tag of what it gives
  Function : ℕ → ℕ → Meaning
  -- the same of a native
  Native : ℕ → ℕ → Meaning
  -- an entry function, which no name calls, by the tag of what it gives
  Entering : ℕ → Meaning
  -- a name that is taken and means nothing: that of a forward without a function
  Taken : Meaning
  -- a declaration that doesn't stand
  Unknown : Meaning

-- a name with what it means
pub record Entry : Type 0 where
  pub name : List ℕ
  pub means : Meaning

-- the blocks around a place, each with its declarations in token order
abbrev pub Scope : Type 0
Scope = List (List Entry)

-- what the first declaration of a name in a list means
abbrev pub first_named : List Entry → List ℕ → Option Meaning
first_named [] name = None
first_named (entry ∷ more) name =
    if bytes_eq entry.name name then Some entry.means else first_named more name

-- the latest declaration of a name in a block
abbrev pub found_here : List Entry → List ℕ → Option Meaning
found_here block name = first_named (reverse block) name

-- the tag of a truth value, and of other numbers
abbrev pub truth_tag : Bool → ℕ
truth_tag true = 1
truth_tag false = 0

-- a predefined constant as declared
abbrev pub constant_meaning : held.Constant → Meaning
constant_meaning it = Constant it.value (truth_tag it.is_bool)

-- what a name means
unfoldable pub found : Scope → List ℕ → Option Meaning
found [] name = option_map constant_meaning (predefined name)
found (block ∷ outer) name = option_or (found_here block name) (found outer name)

-- what a name means in the innermost block: that of the file has the predefined constants too
abbrev pub found_in_block : Scope → List ℕ → Option Meaning
found_in_block [] name = found [] name
found_in_block (block ∷ []) name = found (block ∷ []) name
found_in_block (block ∷ outer ∷ more) name = found_here block name

-- a block within the others
abbrev pub with_block : Scope → Scope
with_block scope = [] ∷ scope

-- with further declarations in the innermost block
abbrev pub with_entries : Scope → List Entry → Scope
with_entries [] entries = entries ∷ []
with_entries (block ∷ outer) entries = (block ++ entries) ∷ outer

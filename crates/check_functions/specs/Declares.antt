-- Names that are declared behind others in the innermost block.
use Rattle.std.specs.Prelude.{◌≡◌, ℕ, List, [], ◌∷◌, ◌++◌, Option, None, Some}
use Rattle.types_rules.specs.Keys.{Key, Named, Operates, Enters, Misshapen, entry_name}
use Rattle.types_rules.specs.Scope.{Entry, Function, Entering, Taken}
use Rattle.types_rules.specs.Headings.{Heading, Role, IsNative, IsForward, IsBody}
use Rattle.types_rules.specs.Sources.{name_of}
use Rattle.check_nodes.specs.Scopes.{Blocks, block_view}

-- these entries stand behind those that stood there, and the outer blocks stay
pub record Declares (old new : Blocks) (entries : List Entry) : Type 0 where
  pub here : block_view new.here ≡ block_view old.here ++ entries
  pub outer : new.outer ≡ old.outer

-- the name that a forward takes, by what stands behind a head
abbrev pub forward_by : Heading → Role → List Entry
forward_by it IsNative = []
forward_by it IsForward = record { name = name_of it.head.name; means = Taken } ∷ []
forward_by it IsBody = []

-- the name of a function, by its number and tag; entry functions have one together
abbrev pub function_by : ℕ → ℕ → Key → List Entry
function_by number tag (Named name) = record { name = name; means = Function number tag } ∷ []
function_by number tag (Operates it) = []
function_by number tag (Enters name) = []
function_by number tag Misshapen = []

-- the name `entry`, where a function has it
abbrev pub entering_by : Option ℕ → List Entry
entering_by None = []
entering_by (Some tag) = record { name = entry_name; means = Entering tag } ∷ []

-- The declarations that are known at a place, block by block with the innermost first, and in each
-- block with the latest first.
use Rattle.std.specs.Prelude.{Bool, false, ◌||◌, ℕ, if◌then◌else◌, List, [], ◌∷◌, Option, Some}
use Rattle.std.specs.Str.{bytes_eq}
use Rattle.names_rules.specs.Mark.{Mark, Opens, Closes, Mentions, Uses, Declares}
use Rattle.names_rules.specs.Known.{Known}
use Rattle.names_rules.specs.Around.{Around, everywhere}
use Rattle.names_rules.specs.Found.{declared}

-- a name, and what is known of it
pub record Entry : Type 0 where
  pub name : List ℕ
  pub known : Known

-- a list of declarations for each open block
abbrev pub Path : Type 0
Path = List (List Entry)

-- with one more declaration in the innermost block
abbrev pub with_entry : Entry → Path → Path
with_entry entry [] = (entry ∷ []) ∷ []
with_entry entry (block ∷ outer) = (entry ∷ block) ∷ outer

-- without the innermost block
abbrev pub outer_of : Path → Path
outer_of [] = []
outer_of (block ∷ outer) = outer

-- the path behind some marks
abbrev pub path_of : Around → List Mark → Path
path_of around [] = []
path_of around (Opens ∷ before) = [] ∷ path_of around before
path_of around (Closes ∷ before) = outer_of (path_of around before)
path_of around (Mentions tag ∷ before) = path_of around before
path_of around (Uses it ∷ before) = path_of around before
path_of around (Declares it ∷ before) =
    with_entry (record { name = it.name.bytes; known = declared around before it })
    (path_of around before)

-- ---- looking up

-- in one block, else elsewhere
abbrev pub in_block : List Entry → List ℕ → Option Known → Option Known
in_block [] name elsewhere = elsewhere
in_block (entry ∷ more) name elsewhere =
    if bytes_eq entry.name name then Some entry.known else in_block more name elsewhere

-- in the innermost block that has the name, else everywhere
abbrev pub on_path : Around → Path → List ℕ → Option Known
on_path around [] name = everywhere around name
on_path around (block ∷ outer) name = in_block block name (on_path around outer name)

-- a block has the name
abbrev pub has_name : List Entry → List ℕ → Bool
has_name [] name = false
has_name (entry ∷ more) name = bytes_eq entry.name name || has_name more name

-- the innermost block has it
abbrev pub innermost_has : Path → List ℕ → Bool
innermost_has [] name = false
innermost_has (block ∷ outer) name = has_name block name

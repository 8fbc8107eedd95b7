-- Tables, one a block with the innermost first, find what going back from an occurrence finds.
use Rattle.std.specs.Prelude.{◌≡◌, ℕ, List}
use Rattle.names_rules.specs.Mark.{Mark}
use Rattle.names_rules.specs.Around.{Around}
use Rattle.names_rules.specs.Found.{meaning}
use Rattle.names_rules.specs.Here.{is_here}
use Rattle.names_rules.specs.Path.{path_of, on_path, innermost_has}

-- what a name means is what the innermost table that has it says
abbrev pub PathFinds : Type 0
PathFinds = (around : Around) (before : List Mark) (name : List ℕ)
    → meaning around before name ≡ on_path around (path_of around before) name

-- a block has a name where its table has it
abbrev pub PathHas : Type 0
PathHas = (around : Around) (before : List Mark) (name : List ℕ)
    → is_here before name ≡ innermost_has (path_of around before) name

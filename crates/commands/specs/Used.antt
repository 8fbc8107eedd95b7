-- The line of how many steps a command did, behind those of its trace, where it is asked for.
use Rattle.std.specs.Prelude.{◌++◌, ℕ, List, [], Bool, true, false, codes}
use Rattle.std.specs.Fmt.{decimal}
use Rattle.command_parts.specs.Told.{Says}
use Rattle.commands.specs.Counted.{before}

-- so many steps
abbrev pub used_line : ℕ → List ℕ
used_line steps = codes "used " ++ (decimal steps ++ codes "\n")

-- where it is asked for
abbrev pub used_text : Bool → ℕ → List ℕ
used_text false steps = []
used_text true steps = used_line steps

-- how the text of a run is written, with the line behind it
abbrev pub with_used : {S : Type 0} → Bool → ℕ → Says S → Says S
with_used false steps says = says
with_used true steps says = before (used_line steps) says

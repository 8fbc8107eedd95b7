-- The lines of what a program's calls need of the stack.
use Rattle.std.specs.Prelude.{◌+◌, ◌++◌, ℕ, List, codes, slice_get, unwrap_or, []}
use Rattle.std.specs.Fmt.{decimal}
use Rattle.std.specs.List.{flat_map}
use Rattle.pawn_usage.specs.declared.answer.Usage.{Usage}
use Rattle.pawn_usage.specs.declared.answer.Usage.TheVariants.{Bound, Recursive}
use Rattle.pawn_usage.specs.SpareCells.{spare_cells}

-- the name of a function by its number, behind a blank
abbrev pub name_text : List (List ℕ) → ℕ → List ℕ
name_text names f = codes " " ++ unwrap_or (slice_get names f) []

-- the names of the functions of a chain
abbrev pub chain_line : List ℕ → List (List ℕ) → List ℕ → List ℕ
chain_line front names chain = front ++ (flat_map (name_text names) chain ++ codes "\n")

-- the room that runs without a lack of stack
abbrev pub stack_line : ℕ → List ℕ
stack_line cells = codes "stack " ++ (decimal (cells + spare_cells) ++ codes "\n")

-- by the names of the program's functions
abbrev pub usage_text : List (List ℕ) → Usage → List ℕ
usage_text names (Bound cells chain) =
    stack_line cells ++ chain_line (codes "chain") names chain
usage_text names (Recursive chain) = chain_line (codes "recursive") names chain

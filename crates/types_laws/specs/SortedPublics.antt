-- The publics of a program that stands are in the order of their names' bytes.
use Rattle.std.specs.Prelude.{ℤ, List, map, IsSorted}
use Rattle.std.specs.Ordering.{nat_cmp}
use Rattle.std.specs.Cmp.Lexicographic.{slice_cmp}
use Rattle.pawn_cells.specs.declared.place.Place.{Place}
use Rattle.pawn_tree.specs.Declarations.{Tree}
use Rattle.pawn_meaning.specs.Program.{Public, Program}
use Rattle.types_rules.specs.IsTyped.{IsTyped}

-- so the host finds a public function by its name
abbrev pub PublicsAreSorted : Type 0
PublicsAreSorted =
    (tree : Tree) (dynamic : ℤ) (program : Program) (warnings : List Place)
    → IsTyped tree dynamic program warnings
    → IsSorted (slice_cmp nat_cmp) (map (λ (item : Public). item.name) program.publics)

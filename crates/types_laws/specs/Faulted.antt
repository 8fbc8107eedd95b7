-- A tree stands, or it has a fault: no verdict of a tree breaks without one.
use Rattle.std.specs.Prelude.{◌≡◌, ◌⊎◌, ℤ, []}
use Rattle.pawn_tree.specs.Declarations.{Tree}
use Rattle.names_rules.specs.Verdict.{Fault, Stands, Breaks}
use Rattle.types_rules.specs.Sources.{Source, source_of, around_of, beginning}
use Rattle.types_rules.specs.Declarations.{declarations}
use Rattle.types_rules.specs.TypedTrees.{Checked, typed}
use Rattle.types_rules.specs.IsTyped.{IsFault}

-- some program and warnings stand for a tree and a room
abbrev pub HasProgram : Tree → ℤ → Type 0
HasProgram tree dynamic = (it : Checked) × (typed tree dynamic ≡ Stands it)

-- some fault is answered for them
abbrev pub HasFault : Tree → ℤ → Type 0
HasFault tree dynamic = (fault : Fault) × IsFault tree dynamic fault

-- one of both holds
abbrev pub FaultsAreGiven : Type 0
FaultsAreGiven = (tree : Tree) (dynamic : ℤ) → HasProgram tree dynamic ⊎ HasFault tree dynamic

-- and so do its declarations, or they have a fault
abbrev pub DeclarationsHaveFaults : Type 0
DeclarationsHaveFaults =
    (tree : Tree) → let source : Source = source_of tree in
    declarations source (around_of source tree) (beginning source) tree ≡ Breaks [] → ⊥

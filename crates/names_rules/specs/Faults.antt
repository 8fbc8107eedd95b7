-- Which nodes of a tree break a rule of names, each with the number of its rule: 50, an
-- occurrence without a declaration; 51, a name twice in one block; and of a constant whose value
-- is wanted, 57, it isn't constant, and 67, it divides by zero.
use Rattle.std.specs.Prelude.{Bool, not, ◌&&◌, if◌then◌else◌, List, [], ◌∷◌, ◌++◌, Option, Some}
use Rattle.std.specs.Prelude.{None}
use Rattle.pawn_tree.specs.Declarations.{Tree}
use Rattle.names_rules.specs.Verdict.{Fault, faults_of}
use Rattle.names_rules.specs.Mark.{Mark, Opens, Closes, Mentions, Uses, Declares, Use, Declaration}
use Rattle.names_rules.specs.TreeMarks.{tree_marks}
use Rattle.names_rules.specs.FileNames.{file_names, twice_faults}
use Rattle.names_rules.specs.Known.{Known, Kind, Cells, Worth, Function}
use Rattle.names_rules.specs.Around.{Around, around_of}
use Rattle.names_rules.specs.Found.{meaning, declared}
use Rattle.names_rules.specs.Here.{is_here}

-- an occurrence without a declaration
abbrev pub use_faults : Use → Option Known → List Fault
use_faults use_here None = record { kind = 50; place = use_here.place } ∷ []
use_faults use_here (Some known) = []

-- a name that stands in its block already; those outside all functions are looked at as one
abbrev pub again_faults : Declaration → Bool → List Fault
again_faults it is_here =
    if not it.outside && is_here then record { kind = 51; place = it.place } ∷ [] else []

-- a constant without a value; what has sizes doesn't want them by itself
abbrev pub value_faults : Kind → List Fault
value_faults (Cells sizes) = []
value_faults (Worth worth) = faults_of worth
value_faults Function = []

module _ (around : Around) where
  -- which rules a mark breaks behind those before it
  abbrev pub mark_faults : List Mark → Mark → List Fault
  mark_faults before Opens = []
  mark_faults before Closes = []
  mark_faults before (Mentions tag) = []
  mark_faults before (Uses it) = use_faults it (meaning around before it.name)
  mark_faults before (Declares it) =
      again_faults it (is_here before it.name.bytes)
      ++ value_faults (declared around before it).kind

  -- which rules all these marks break
  abbrev pub marks_faults : List Mark → List Fault
  marks_faults [] = []
  marks_faults (mark ∷ before) = marks_faults before ++ mark_faults before mark

-- which rules of names a tree breaks
abbrev pub faults : Tree → List Fault
faults tree = twice_faults (file_names tree) ++ marks_faults (around_of tree) (tree_marks tree)

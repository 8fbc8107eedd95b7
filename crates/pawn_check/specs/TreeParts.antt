-- The parts of what a tree is, by its source.
use Rattle.std.specs.Prelude.{ℤ, List, ◌++◌, map, flat_map, Option}
use Rattle.pawn_tree.specs.declared.name.At.{At}
use Rattle.pawn_tree.specs.Declarations.{Tree}
use Rattle.names_rules.specs.Verdict.{Fault, Verdict, after, both}
use Rattle.names_rules.specs.TreeMarks.{tree_marks}
use Rattle.names_rules.specs.FileNames.{file_names, twice_faults}
use Rattle.types_rules.specs.Around.{Head}
use Rattle.types_rules.specs.Groups.{Group}
use Rattle.types_rules.specs.Paths as paths
use Rattle.types_rules.specs.Sources.{Source, all_stated, around_of, beginning, without_heads}
use Rattle.types_rules.specs.Declarations.{Bodied, Done, declarations}
use Rattle.types_rules.specs.Functions.{group_faults}
use Rattle.types_rules.specs.Programs.{program_of}
use Rattle.types_rules.specs.TypedTrees.{Checked, dynamic_faults, entry_faults}
use Rattle.types_rules.specs.TypedTrees.{return_faults, unless}
use Rattle.types_rules.specs.TypedTrees.{within_sums}

module _ (source : Source) (tree : Tree) where
  -- all heads in order
  abbrev pub heads : List (Option Head)
  heads = paths.heads (without_heads source) (beginning source) tree

  -- what the declarations make
  abbrev pub declared : Verdict Done
  declared = declarations source (around_of source tree) (beginning source) tree

  -- what the bodies of functions break together
  abbrev pub function_faults : List Fault
  function_faults =
      flat_map (λ (group : Group). group_faults source (all_stated source tree) group)
      source.groups

  -- what declarations that stand break together
  abbrev pub together : List Bodied → List Fault
  together bodies =
      twice_faults (file_names tree) ++ (function_faults ++ return_faults bodies)

  -- the program with its warnings, for a room for heap and stack
  abbrev pub checked_by : ℤ → Done → Checked
  checked_by dynamic it = record {
    program = program_of source (all_stated source tree) (tree_marks tree) dynamic it;
    warnings = map (λ (at : At). at.place) it.warned;
  }

  -- that program, where it stands
  abbrev pub typed_by : ℤ → Verdict Checked
  typed_by dynamic =
      both (unless (dynamic_faults dynamic ++ entry_faults source)) declared (λ ok it.
      after (unless (together it.bodies)) (λ ok2. within_sums (checked_by dynamic it)))

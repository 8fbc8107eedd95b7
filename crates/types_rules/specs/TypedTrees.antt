-- Which program and warnings a tree is, or which faults there are and where.
use Rattle.std.specs.Prelude.{ℕ, ℤ, pos, List, [], ◌∷◌, ◌++◌, map, flat_map, Bool, true, false, not}
use Rattle.std.specs.Prelude.{◌&&◌, ◌||◌, int_le, nat_le, is_some, if◌then◌else◌}
use Rattle.std.specs.List.{list_any}
use Rattle.pawn_cells.specs.declared.place.Place.{Place}
use Rattle.pawn_tree.specs.declared.name.At.{At}
use Rattle.pawn_tree.specs.Declarations.{Tree}
use Rattle.pawn_meaning.specs.Program.{Program, Public}
use Rattle.pawn_meaning.specs.declared.program_limits.TheConstants.{DATA_LIMIT, WEIGHT_LIMIT}
use Rattle.pawn_meaning.specs.declared.program_limits.TheConstants.{DYNAMIC_LIMIT}
use Rattle.pawn_meaning.specs.Limits.{data_cells}
use Rattle.pawn_meaning.specs.Weight.{weight}
use Rattle.names_rules.specs.Verdict.{Fault, Verdict, Stands, Breaks, after, both}
use Rattle.names_rules.specs.TreeMarks.{tree_marks}
use Rattle.names_rules.specs.FileNames.{file_names, twice_faults}
use Rattle.types_rules.specs.declared.fault.TheConstants.{LIMIT_ARRAY, LIMIT_CODE, LIMIT_DYNAMIC}
use Rattle.types_rules.specs.declared.fault.TheConstants.{NO_FUNCTIONS, RETURN_MIXED}
use Rattle.types_rules.specs.Stood.{Returned}
use Rattle.types_rules.specs.Keys.{Named}
use Rattle.types_rules.specs.Groups.{Group, number_of}
use Rattle.types_rules.specs.Sources.{Source, Stated, source_of, all_stated, around_of, beginning}
use Rattle.types_rules.specs.Declarations.{Bodied, Done, declarations}
use Rattle.types_rules.specs.Functions.{group_faults, fault, main_name}
use Rattle.types_rules.specs.Publics.{publics}
use Rattle.types_rules.specs.Programs.{bodies_of, program_of}

-- a program, and the places of the warnings in token order
pub record Checked : Type 0 where
  pub program : Program
  pub warnings : List Place

-- ---- faults of the source as a whole, which stand at its first line

-- where a fault of no single place stands
abbrev pub first_line : Place
first_line = record { file = 0; line = 1 }

-- a fault of this kind where the condition holds
abbrev pub whole_fault : Bool → ℕ → List Fault
whole_fault false kind = []
whole_fault true kind = record { kind = kind; place = first_line } ∷ []

-- the room is within its range
abbrev pub dynamic_faults : ℤ → List Fault
dynamic_faults dynamic =
    whole_fault (not (int_le (pos 0) dynamic && int_le dynamic DYNAMIC_LIMIT)) LIMIT_DYNAMIC

-- there is `main`, or a public function
abbrev pub has_some : List Public → Bool
has_some [] = false
has_some (it ∷ more) = true

-- some function is called `main`
abbrev pub has_main : Source → Bool
has_main source = is_some (number_of source.groups (Named main_name))

-- a program has a function that it can begin with
abbrev pub entry_faults : Source → List Fault
entry_faults source =
    whole_fault (not (has_main source || has_some (publics source))) NO_FUNCTIONS

-- ---- returns

-- this `return` has a value
abbrev pub gives : Returned → Bool
gives it = it.gives

-- this `return` has no value
abbrev pub gives_none : Returned → Bool
gives_none it = not it.gives

-- a function returns with a value, or without one; all its bodies count as one
abbrev pub mixed_returns : List Returned → List Fault
mixed_returns returns =
    if list_any gives returns && list_any gives_none returns
    then map (λ (it : Returned). fault RETURN_MIXED it.at) returns else []

-- the `return` statements of a function, in all its bodies
abbrev pub returns_of : List Bodied → ℕ → List Returned
returns_of all number = flat_map (λ (it : Bodied). it.returns) (bodies_of all number)

-- the `return` statements of each body's function
abbrev pub return_faults : List Bodied → List Fault
return_faults all = flat_map (λ (it : Bodied). mixed_returns (returns_of all it.number)) all

-- ---- the whole

-- nothing more than that no rule is broken
pub data Passed : Type 0 where
  passed : Passed

-- broken by faults, if there are any
abbrev pub unless : List Fault → Verdict Passed
unless [] = Stands passed
unless (it ∷ more) = Breaks (it ∷ more)

-- sums over the whole are tested where nothing else is broken
abbrev pub sum_faults : Program → List Fault
sum_faults program =
    whole_fault (not (nat_le (data_cells program) DATA_LIMIT)) LIMIT_ARRAY
    ++ whole_fault (not (nat_le (weight program) WEIGHT_LIMIT)) LIMIT_CODE

-- a program whose sums are within their limits
abbrev pub within_sums : Checked → Verdict Checked
within_sums it = after (unless (sum_faults it.program)) (λ ok. Stands it)

module _ (tree : Tree) (dynamic : ℤ) where
  -- what is tested of the source as a whole, whatever its declarations are
  abbrev pub whole_faults : List Fault
  whole_faults = dynamic_faults dynamic ++ entry_faults (source_of tree)

  -- what declarations that stand break together: names, heads, classifiers, returns
  abbrev pub source_faults : List Bodied → List Fault
  source_faults bodies =
      let source : Source = source_of tree in
      let all : List Stated = all_stated source tree in
      twice_faults (file_names tree)
      ++ (flat_map (λ (group : Group). group_faults source all group) source.groups
      ++ return_faults bodies)

  -- what all declarations of the source are, from its beginning
  abbrev pub done : Verdict Done
  done =
      let source : Source = source_of tree in
      declarations source (around_of source tree) (beginning source) tree

  -- the program of declarations that stand, with the places that they warn of
  abbrev pub checked_of : Done → Checked
  checked_of it =
      let source : Source = source_of tree in
      record {
        program = program_of source (all_stated source tree) (tree_marks tree) dynamic it;
        warnings = map (λ (at : At). at.place) it.warned;
      }

  -- the program and warnings of a tree, for a room for heap and stack
  abbrev pub typed : Verdict Checked
  typed =
      both (unless whole_faults) done (λ ok it.
      after (unless (source_faults it.bodies)) (λ ok2. within_sums (checked_of it)))

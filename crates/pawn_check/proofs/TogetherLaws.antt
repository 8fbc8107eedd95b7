-- What is tested of declarations together, and of a program.
use Rattle.std.proofs.Common.{◌≡◌, ℤ, List, [], ◌∷◌, ◌++◌, Bool, not, ◌||◌, Option, Result, Ok, Err}
use Rattle.std.proofs.Common.{ap, subst, ◌∙◌}
use Rattle.std.specs.Prelude.{flat_map}
use Rattle.pawn_cells.specs.declared.place.Place.{Place}
use Rattle.pawn_tree.specs.Declarations.{Tree}
use Rattle.pawn_meaning.specs.Program.{Program, Public}
use Rattle.names_rules.specs.Verdict.{Fault, faults_of}
use Rattle.types_rules.specs.declared.fault.TheConstants.{NO_FUNCTIONS}
use Rattle.types_rules.specs.Around.{Head}
use Rattle.types_rules.specs.Sources.{Source, stated}
use Rattle.types_rules.specs.Functions.{group_faults}
use Rattle.types_rules.specs.Publics.{publics}
use Rattle.types_rules.specs.TypedTrees.{Checked, unless, within_sums}
use Rattle.types_rules.specs.TypedTrees.{has_main, has_some, whole_fault}
use Rattle.types_rules.specs.TypedTrees.{dynamic_faults, entry_faults}
use Rattle.pawn_verdict.specs.Answers.{Answers, Fails}
use Rattle.pawn_verdict.specs.declared.fault.CheckFault.{CheckFault}
use Rattle.check_declarations.specs.PassedView.{passed_view}
use Rattle.check_functions.specs.Finds.{Finds}
use Rattle.pawn_check.specs.TreeParts.{heads, function_faults}
use Rattle.pawn_check.specs.View.{checked_view}
use Rattle.pawn_check.specs.declared.checked.Checked.{Checked as HeldChecked}

fails_unless : (faults : List Fault) (fault : CheckFault) → Fails faults fault
    → Fails (faults_of (unless faults)) fault
fails_unless [] fault h = h
fails_unless (it ∷ more) fault h = h

-- what is found is what `unless` says
pub finds_unless : (faults : List Fault) (result : Result (Unit {0}) CheckFault)
    → Finds faults result
    → Answers passed_view (unless faults) result
finds_unless faults (Ok x) h = ap unless h.told
finds_unless faults (Err fault) h = fails_unless faults fault h.told

-- by the heads of the tree
pub functions_are : (source : Source) (tree : Tree) (known : List (Option Head))
    (result : Result (Unit {0}) CheckFault)
    → known ≡ heads source tree → Finds
    (flat_map (group_faults source (stated source source.headings known)) source.groups) result
    → Finds (function_faults source tree) result
functions_are source tree known result e h =
    subst (λ (hs : List (Option Head)). Finds
    (flat_map (group_faults source (stated source source.headings hs)) source.groups) result) e
    h

-- by the public functions
pub whole_is : (source : Source) (dynamic : ℤ) (some : Bool) (all : List Public)
    (result : Result (Unit {0}) CheckFault)
    → some ≡ has_main source || has_some all → all ≡ publics source
    → Answers passed_view (unless (dynamic_faults dynamic ++ whole_fault (not some) NO_FUNCTIONS))
    result
    → Answers passed_view (unless (dynamic_faults dynamic ++ entry_faults source)) result
whole_is source dynamic some all result e p h =
    let is : some ≡ has_main source || has_some (publics source) =
    e ∙ ap (λ (list : List Public). has_main source || has_some list) p in
    subst (λ (b : Bool). Answers passed_view
    (unless (dynamic_faults dynamic ++ whole_fault (not b) NO_FUNCTIONS)) result) is h

pub whole_within : (it : Checked) (program : Program) (warnings : List Place)
    (result : Result HeldChecked CheckFault)
    → program ≡ it.program → warnings ≡ it.warnings
    → Answers checked_view (within_sums (record { program = program; warnings = warnings })) result
    → Answers checked_view (within_sums it) result
whole_within it program warnings result p w h =
    let same : record { program = program; warnings = warnings } ≡ it =
    λ j. record { program = p j; warnings = w j } in
    subst (λ (x : Checked). Answers checked_view (within_sums x) result) same h

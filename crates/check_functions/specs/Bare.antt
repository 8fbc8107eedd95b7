-- The faults of bodies by their classifiers, as code finds them: with what is known of the function
-- and of the bodies before.
use Rattle.std.specs.Prelude.{List, [], ◌∷◌, ◌++◌, Bool, not, ◌||◌, Option, None, Some}
use Rattle.pawn_tree.specs.declared.name.StateName.{StateName}
use Rattle.names_rules.specs.Verdict.{Fault}
use Rattle.types_rules.specs.declared.fault.TheConstants.{MIXED_AUTOMATA, REDEFINED}
use Rattle.types_rules.specs.Clauses.{is_mixed}
use Rattle.types_rules.specs.Groups.{Written}
use Rattle.types_rules.specs.Functions.{fault_if, has_classifier}

-- a body without a classifier
abbrev pub bare_by : Bool → Bool → Written → List Fault
bare_by classified again it =
    fault_if classified MIXED_AUTOMATA it.at ++ fault_if again REDEFINED it.at

-- a body by its classifier
abbrev pub states_by : Bool → Bool → Written → Option (List StateName) → List Fault
states_by classified again it None = bare_by classified again it
states_by classified again it (Some states) = fault_if (is_mixed states) MIXED_AUTOMATA it.at

-- bodies in order
abbrev pub bodies_by : Bool → Bool → List Written → List Fault
bodies_by classified again [] = []
bodies_by classified again (it ∷ more) =
    states_by classified again it it.function.states
    ++ bodies_by classified (again || not (has_classifier it)) more

-- The faults of a function's bodies, apart from their heads.
use Rattle.std.specs.Prelude.{List, ◌++◌, Bool, ◌&&◌}
use Rattle.names_rules.specs.Verdict.{Fault}
use Rattle.types_rules.specs.declared.fault.TheConstants.{HEAD_DIFFERS}
use Rattle.types_rules.specs.Groups.{Written, Group}
use Rattle.types_rules.specs.Functions.{fault_if, has_params, classifier_faults, param_faults}

-- a body with parameters, where the function must not have them
abbrev pub params_by : Bool → Written → List Fault
params_by none it = fault_if (none && has_params it.function.head.params) HEAD_DIFFERS it.at

-- of its classifiers and parameters
abbrev pub bodies_and_params : Group → List Fault
bodies_and_params group = classifier_faults group ++ param_faults group

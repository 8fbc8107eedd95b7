-- The parts of a parameter that hang on nothing around it.
use Rattle.std.specs.Prelude.{◌++◌, Bool, true, false, Option, None, Some}
use Rattle.pawn_tree.specs.declared.name.At.{At}
use Rattle.pawn_tree.specs.Expressions.{Expr}
use Rattle.pawn_tree.specs.Declarations as tree
use Rattle.names_rules.specs.Verdict.{Verdict, Stands}
use Rattle.types_rules.specs.declared.fault.TheConstants.{ARGUMENT_KIND, CONSTANT_NEEDED}
use Rattle.types_rules.specs.Rule.{broken}
use Rattle.types_rules.specs.Around.{Around, Default, NoDefault}
use Rattle.types_rules.specs.Scope.{Scope}
use Rattle.types_rules.specs.VariableParts.{Judged, judged, with_part}
use Rattle.types_rules.specs.VariableParts.{all_parts, maybe_judged, dim_part}
use Rattle.types_rules.specs.VariableParts.{expr_part}
use Rattle.types_rules.specs.Params.{Headed, either}

-- an array has no default
abbrev pub no_default : At → Option Expr → Verdict Default
no_default at None = Stands NoDefault
no_default at (Some e) = broken CONSTANT_NEEDED at

-- an array is no reference
abbrev pub no_reference : At → Bool → Verdict Bool
no_reference at true = broken ARGUMENT_KIND at
no_reference at false = Stands false

-- the expressions in a parameter
abbrev pub param_part : Around → Scope → tree.Param → Verdict Judged
param_part cx scope (tree.Plain constant reference tags name dims value) =
    with_part (all_parts (dim_part cx scope) dims) (maybe_judged (expr_part cx scope) value)
param_part cx scope (tree.Rest rest_at tags) = Stands judged

-- parameters behind others
abbrev pub headed_behind : Headed → Headed → Headed
headed_behind x y = record {
  params = x.params ++ y.params;
  slots = x.slots ++ y.slots;
  rest = either x.rest y.rest;
  warned = x.warned ++ y.warned;
}

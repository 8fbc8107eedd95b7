-- What a user operator with `=` makes of a target and an operand.
use Rattle.std.specs.Prelude.{ℕ, Option, None}
use Rattle.pawn_tree.specs.declared.name.At.{At}
use Rattle.pawn_tags.specs.declared.operators.Choice.{Choice}
use Rattle.pawn_meaning.specs.Program.{Scalar, Expr, UpdateBy}
use Rattle.types_rules.specs.Around.{Around, function_tag}
use Rattle.types_rules.specs.Assignments.{given_back}
use Rattle.types_rules.specs.Tests.{converter}
use Rattle.types_rules.specs.Typed.{Typed, value_of_two}

-- the value of the target, which is a cell
abbrev pub updated_by : Around → At → Choice → Typed → Typed → Scalar → Expr → Typed
updated_by cx at by x y p e =
    let result : ℕ = function_tag cx by.function in
    let convert : Option ℕ = converter cx result x.tag in
    value_of_two at (UpdateBy p by.function by.swapped e convert) x.tag None
    x (given_back cx x.tag result y.at convert) y

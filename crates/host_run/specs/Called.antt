-- The call of a native by what a script says of it.
use Rattle.std.specs.Prelude.{ℕ, ℤ, List, Option, None, Some, length}
use Rattle.host_script.specs.declared.script.Script.{Script}
use Rattle.host_script.specs.declared.script.Form.{Form}
use Rattle.host_script.specs.NativeCall.{Called, Ends_there, native_error, called_on}
use Rattle.host_script.specs.Script.{forms_from, turn_by}
use Rattle.amx_ops.specs.State.{State}
use Rattle.amx_ops.specs.Moves.{arguments, look}

-- a call with its arguments, where they can be read, of a native with these forms and this result
abbrev pub called_for : Script → List Form → Option Form → Option ℤ → List ℕ → State → ℕ
    → Option (List ℤ) → Called ℕ
called_for script forms rest result name s position None = Ends_there native_error position
called_for script forms rest result name s position (Some values) =
    called_on (look s) name values position (turn_by result script position)
    (forms_from forms rest (length values))

-- a call with the arguments that lie on the stack
abbrev pub called_of : Script → List Form → Option Form → Option ℤ → List ℕ → State → ℕ → Called ℕ
called_of script forms rest result name s position =
    called_for script forms rest result name s position (arguments s)

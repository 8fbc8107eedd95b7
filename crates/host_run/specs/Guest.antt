-- The forms of a native's arguments by their numbers.
use Rattle.std.specs.Prelude.{ℕ, ℤ, suc, List, [], ◌∷◌, Option, slice_get, unwrap_or}
use Rattle.host_script.specs.declared.script.Form.{Form}
use Rattle.host_script.specs.declared.script.Form.TheVariants.{Cell}

-- the form of an argument, where the native takes so many
abbrev pub form_at : List Form → Option Form → ℕ → Form
form_at forms rest index = unwrap_or (slice_get forms index) (unwrap_or rest Cell)

-- a form for each argument, the first with this number
abbrev pub formed : (ℕ → Form) → ℕ → List ℤ → List Form
formed form index [] = []
formed form index (value ∷ values) = form index ∷ formed form (suc index) values
